use Rattle.library_batches.proofs.HandingLaws.{HandsOut-end}
use Rattle.library_batches.proofs.laws.all_is_handed_out_at_the_end.Goals as goal

pub returns : goal.returns
returns c = HandsOut-end
