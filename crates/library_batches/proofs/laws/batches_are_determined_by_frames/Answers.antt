use Rattle.library_batches.proofs.SameLaws.{one-batches}
use Rattle.library_batches.proofs.laws.batches_are_determined_by_frames.Goals as goal

pub returns : goal.returns
returns c = one-batches
