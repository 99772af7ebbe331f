use Rattle.library_batches.proofs.HandingLaws.{HandsOut-batch}
use Rattle.library_batches.proofs.laws.a_batch_is_behind_the_others.Goals as goal

pub returns : goal.returns
returns c = HandsOut-batch
