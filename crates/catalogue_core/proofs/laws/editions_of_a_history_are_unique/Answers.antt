use Rattle.catalogue_core.proofs.SameEditions.{same_editions_of}
use Rattle.catalogue_core.proofs.laws.editions_of_a_history_are_unique.Goals as goal

pub returns : goal.returns
returns c = same_editions_of
