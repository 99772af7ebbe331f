use Rattle.catalogue_export.proofs.LongestLaws.{front-longest}
use Rattle.catalogue_export.proofs.laws.shown_key_is_the_longest_front.Goals as goal

pub returns : goal.returns
returns c = front-longest
