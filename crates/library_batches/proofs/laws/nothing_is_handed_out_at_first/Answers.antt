use Rattle.library_batches.proofs.HandingLaws.{HandsOut-none}
use Rattle.library_batches.proofs.laws.nothing_is_handed_out_at_first.Goals as goal

pub returns : goal.returns
returns c = HandsOut-none
