use Rattle.authority_names.proofs.SizeLaws.{one_size}
use Rattle.authority_names.proofs.laws.one_size.Goals as goal

pub returns : goal.returns
returns c = one_size
