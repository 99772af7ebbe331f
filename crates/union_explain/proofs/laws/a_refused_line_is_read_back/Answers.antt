use Rattle.union_explain.proofs.LineLaws.{read-back}
use Rattle.union_explain.proofs.laws.a_refused_line_is_read_back.Goals as goal

pub returns : goal.returns
returns c = read-back
