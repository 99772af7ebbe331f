use Rattle.library_batches.proofs.HandingLaws.{found_in-one_more, after_batches-one_more}
use Rattle.library_batches.proofs.laws.one_more_batch_is_applied.Goals as goal

pub returns : goal.returns
returns c = record { outcomes = found_in-one_more; current = after_batches-one_more }
