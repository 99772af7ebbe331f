use Rattle.std.proofs.Common.{filter}
use Rattle.union_base.specs.SortedLists.{has}
use Rattle.match_features.specs.Kept.{texts_cmp}
use Rattle.match_features.specs.Meeting.{is_no_serial}
use Rattle.edition_derivations.proofs.CommonLaws.{found-any}
use Rattle.edition_derivations.proofs.laws.common_type_is_found.Goals as goal

pub returns : goal.returns
returns c = λ xs ys. found-any (has texts_cmp ys) (filter is_no_serial xs)
