-- Records of two libraries that both number their own under one source (001 and 003).
use Rattle.std.specs.Prelude.{ℕ, Bool, not, nat_eq, ◌&&◌, ◌||◌, List}
use Rattle.std.specs.List.{list_any}
use Rattle.std.specs.Cmp.Lexicographic.{pointwise}
use Rattle.std.specs.Option.{option_to_list}
use Rattle.union_base.specs.SortedLists.{has}
use Rattle.isbn_keys.specs.Control.{pair_key}
use Rattle.match_features.specs.Kept.{pairs_cmp}
use Rattle.match_features.specs.Meeting.{meet_by_control, meet_by_isbn, meet_by_issn, meet_by_title}
use Rattle.catalogue_editions.specs.Ids.{least}
use Rattle.catalogue_editions.specs.declared.edition.Edition.{Edition}
use Rattle.edition_doubts.specs.Pairs.{some_pair}

-- the control number is that of the record's own 001 under the source
abbrev pub is_own : Edition → List ℕ × List ℕ → Bool
is_own r number = has pairs_cmp (option_to_list (pair_key number.0 (least r).control)) number

-- the control number is in both records, and not the own one of both
abbrev pub is_other_number : Edition → Edition → List ℕ × List ℕ → Bool
is_other_number x y number = has pairs_cmp y.features.control number && not (is_own x number && is_own y number)

-- some control number is
abbrev pub share_other_number : Edition → Edition → Bool
share_other_number x y = list_any (is_other_number x y) x.features.control

-- the records are of one library
abbrev pub are_of_one_library : Edition → Edition → Bool
are_of_one_library x y = pointwise nat_eq (least x).library (least y).library

-- the records match by their control numbers alone
abbrev pub match_by_control : Edition → Edition → Bool
match_by_control x y =
    meet_by_control x.features y.features
    && not (meet_by_isbn x.features y.features || (meet_by_issn x.features y.features || meet_by_title x.features y.features))

-- the records of two libraries match by control numbers that are the own ones of both, and by nothing else
abbrev pub match_by_own : Edition → Edition → Bool
match_by_own x y = (not (are_of_one_library x y) && match_by_control x y) && not (share_other_number x y)

-- two of the records do
abbrev pub are_joined_by_own : List Edition → Bool
are_joined_by_own records = some_pair match_by_own records
