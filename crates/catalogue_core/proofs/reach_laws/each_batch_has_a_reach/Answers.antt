use Rattle.catalogue_core.proofs.ReachLaws.{batch-reach, parts-reach}
use Rattle.catalogue_core.proofs.reach_laws.each_batch_has_a_reach.Goals as goal

pub returns : goal.returns
returns c = record { applied = batch-reach c.resolution_exists.ensures; prepared = parts-reach c.resolution_exists.ensures }
