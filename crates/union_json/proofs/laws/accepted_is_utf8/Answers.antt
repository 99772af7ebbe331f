use Rattle.union_json.proofs.AcceptedUtf8.{accepted-utf8}
use Rattle.union_json.proofs.laws.accepted_is_utf8.Goals as goal

pub returns : goal.returns
returns c = accepted-utf8
