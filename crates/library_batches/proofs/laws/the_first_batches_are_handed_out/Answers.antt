use Rattle.library_batches.proofs.HandingLaws.{HandsOut-first}
use Rattle.library_batches.proofs.laws.the_first_batches_are_handed_out.Goals as goal

pub returns : goal.returns
returns c = HandsOut-first
