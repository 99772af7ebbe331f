-- Records that an ISBN of a set joins, or of one of its volumes (020 $a and $q).
use Rattle.std.specs.Prelude.{ℕ, Bool, false, not, ◌==◌, ◌&&◌, ◌||◌, if◌then◌else◌, nat_eq, List, [], ◌∷◌, take, drop, codes}
use Rattle.std.specs.List.{list_any, flat_map}
use Rattle.std.specs.Char.{is_ascii_alphabetic}
use Rattle.std.specs.Cmp.Lexicographic.{pointwise}
use Rattle.union_base.specs.Bodies.{Subfield, subfields_of}
use Rattle.union_base.specs.declared.field.Field.{Field}
use Rattle.union_base.specs.SortedLists.{has, set_of}
use Rattle.match_features.specs.Kept.{texts_cmp}
use Rattle.match_features.specs.Meeting.{meet_by_control, meet_by_isbn, meet_by_issn, meet_by_title}
use Rattle.record_features.specs.Gathering.{isbns_in}
use Rattle.field_merge.specs.declared.content.Content.{Content}
use Rattle.catalogue_editions.specs.declared.edition.Edition.{Edition}
use Rattle.edition_doubts.specs.Pairs.{some_pair}

-- ---- which ISBNs these are

-- `set`, in small letters or in capitals
abbrev pub is_set : List ℕ → Bool
is_set word = pointwise nat_eq word (codes "set") || (pointwise nat_eq word (codes "Set") || pointwise nat_eq word (codes "SET"))

-- the abbreviation of a volume
abbrev pub is_volume : List ℕ → Bool
is_volume word = pointwise nat_eq word (codes "v.") || pointwise nat_eq word (codes "V.")

-- the text begins with a letter
abbrev pub begins_with_letter : List ℕ → Bool
begins_with_letter [] = false
begins_with_letter (b ∷ bytes) = is_ascii_alphabetic b

-- the text begins with `set` as a whole word, or with `v.`
abbrev pub begins_with_set : List ℕ → Bool
begins_with_set text = (is_set (take 3 text) && not (begins_with_letter (drop 3 text))) || is_volume (take 2 text)

-- the same somewhere in the text where no letter is in front of it; of the text itself it is told whether one is
abbrev pub tells_from : Bool → List ℕ → Bool
tells_from behind [] = false
tells_from behind (b ∷ bytes) = (not behind && begins_with_set (b ∷ bytes)) || tells_from (is_ascii_alphabetic b) bytes

-- a number, or its qualifier, tells of a set
abbrev pub tells_of_set : Subfield → Bool
tells_of_set s = ((s.code == 0x61) || (s.code == 0x71)) && tells_from false s.text

-- the ISBNs of a field 020 that tells of a set
abbrev pub set_isbns_in : Field → List (List ℕ)
set_isbns_in f = if list_any tells_of_set (subfields_of f.body) then isbns_in f else []

-- the ISBNs of a record's fields that tell of a set
abbrev pub set_isbns_of : Content → List (List ℕ)
set_isbns_of c = flat_map set_isbns_in c.united

-- the same of several records, in order, each once
abbrev pub set_isbns : List Content → List (List ℕ)
set_isbns contents = set_of texts_cmp (flat_map set_isbns_of contents)

-- ---- what they join

-- an ISBN of both is no set's
abbrev pub share_other_isbn : List (List ℕ) → List (List ℕ) → List (List ℕ) → Bool
share_other_isbn sets xs ys = list_any (λ n. has texts_cmp ys n && not (has texts_cmp sets n)) xs

-- the records match by ISBNs of sets, and by nothing else
abbrev pub match_by_sets : List (List ℕ) → Edition → Edition → Bool
match_by_sets sets x y =
    (meet_by_isbn x.features y.features && not (share_other_isbn sets x.features.isbns y.features.isbns))
    && not (meet_by_control x.features y.features || (meet_by_issn x.features y.features || meet_by_title x.features y.features))

-- two of the records match by ISBNs of sets, and by nothing else
abbrev pub are_joined_by_sets : List Edition → List Content → Bool
are_joined_by_sets records contents = some_pair (match_by_sets (set_isbns contents)) records
