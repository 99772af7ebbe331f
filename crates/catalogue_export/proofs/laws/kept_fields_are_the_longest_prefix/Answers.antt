use Rattle.catalogue_export.proofs.LongestLaws.{fitting-longest}
use Rattle.catalogue_export.proofs.laws.kept_fields_are_the_longest_prefix.Goals as goal

pub returns : goal.returns
returns c = fitting-longest
