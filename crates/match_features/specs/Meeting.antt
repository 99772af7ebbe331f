-- Which features meet: those of records that describe one edition.
use Rattle.std.specs.Prelude.{ℕ, Bool, not, ◌==◌, ◌&&◌, ◌||◌, List, filter, slice_index}
use Rattle.union_base.specs.SortedLists.{have_common}
use Rattle.match_features.specs.declared.features.Features.{Features}
use Rattle.match_features.specs.Kept.{texts_cmp, pairs_cmp}

-- some control number is common to both
abbrev pub meet_by_control : Features → Features → Bool
meet_by_control x y = have_common pairs_cmp x.control y.control

-- some type and some ISBN are
abbrev pub meet_by_isbn : Features → Features → Bool
meet_by_isbn x y = have_common texts_cmp x.types y.types && have_common texts_cmp x.isbns y.isbns

-- some type and some ISSN are
abbrev pub meet_by_issn : Features → Features → Bool
meet_by_issn x y = have_common texts_cmp x.types y.types && have_common texts_cmp x.issns y.issns

-- a type whose bibliographic level is that of a serial (MARC 21, leader/07)
abbrev pub is_serial : List ℕ → Bool
is_serial kind = slice_index kind 1 == 0x73

-- the type and level are not those of a serial
abbrev pub is_no_serial : List ℕ → Bool
is_no_serial kind = not (is_serial kind)

-- whether some type that is no serial's stands in both lists
abbrev pub have_common_but_serials : List (List ℕ) → List (List ℕ) → Bool
have_common_but_serials xs ys = have_common texts_cmp (filter is_no_serial xs) ys

-- some type that is no serial's, some title, some date and some name are
abbrev pub meet_by_title : Features → Features → Bool
meet_by_title x y =
    have_common_but_serials x.types y.types
    && have_common texts_cmp x.titles y.titles
    && have_common texts_cmp x.dates y.dates
    && have_common texts_cmp x.names y.names

-- the match rule
abbrev pub meet : Features → Features → Bool
meet x y = meet_by_control x y || meet_by_isbn x y || meet_by_issn x y || meet_by_title x y
