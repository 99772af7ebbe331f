use Rattle.library_batches.proofs.HandingLaws.{HandsOut-long}
use Rattle.library_batches.proofs.laws.a_source_that_is_too_long_has_more_bytes.Goals as goal

pub returns : goal.returns
returns c = HandsOut-long
