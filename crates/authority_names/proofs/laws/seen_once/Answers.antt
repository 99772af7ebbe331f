use Rattle.authority_names.proofs.NameLaws.{seen_twice}
use Rattle.authority_names.proofs.laws.seen_once.Goals as goal

pub returns : goal.returns
returns c = seen_twice
