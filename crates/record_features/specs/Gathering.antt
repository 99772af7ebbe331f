-- The features of a record.
use Rattle.std.specs.Prelude.{ℕ, Bool, ◌==◌, ◌&&◌, ◌||◌, if◌then◌else◌, Option, Some, None, List, [], ◌∷◌, ◌++◌, codes, length, slice_range, refl}
use Rattle.std.specs.Char.{is_ascii_digit}
use Rattle.std.specs.List.{list_all, flat_map}
use Rattle.std.specs.Option.{option_to_list}
use Rattle.union_base.specs.Bodies.{Subfield, subfields_of}
use Rattle.union_base.specs.declared.field.Field.{Field}
use Rattle.union_base.specs.SortedLists.{set_of}
use Rattle.marc_parts.specs.declared.marc_record.Record.{Record}
use Rattle.marc_parts.specs.Parts.{has_tag, text_under, control_number}
use Rattle.naco_normal.specs.Words.{where_not_empty}
use Rattle.isbn_keys.specs.Isbn.{isbn_key}
use Rattle.isbn_keys.specs.Issn.{issn_key}
use Rattle.isbn_keys.specs.Lccn.{lccn_key}
use Rattle.isbn_keys.specs.Control.{pair_key, system_key}
use Rattle.workset_keys.specs.Names.{name_of, title245_of}
use Rattle.match_features.specs.declared.features.Features.{Features}
use Rattle.match_features.specs.Kept.{texts_cmp, pairs_cmp}
use Rattle.match_features.specs.KeptLaws.{kept_sets}

-- the subfields $a, in which the numbers stand
abbrev pub is_a : Subfield → Bool
is_a s = s.code == 0x61

-- what the subfields of a field give, where it has that tag
abbrev pub from_field : {K : Type 0} → List ℕ → (Subfield → List K) → Field → List K
from_field tag given f = if has_tag tag f then flat_map given (subfields_of f.body) else []

-- a library's own number: under the source `=LIB`
abbrev pub own_pair : List ℕ → Record → List ℕ × List ℕ
own_pair library r = (codes "=" ++ library, control_number r)

-- fields 003 and 001: a number under the source that assigned it
abbrev pub assigned_pair : Record → List (List ℕ × List ℕ)
assigned_pair r = option_to_list (pair_key (text_under (codes "003") r.fields) (text_under (codes "001") r.fields))

-- an LCCN: under the source `DLC`
abbrev pub congress_pair : Option (List ℕ) → List (List ℕ × List ℕ)
congress_pair None = []
congress_pair (Some number) = (codes "DLC", number) ∷ []

-- the control pair of a Library of Congress number in a subfield $a
abbrev pub lccn_in : Subfield → List (List ℕ × List ℕ)
lccn_in s = if is_a s then congress_pair (lccn_key s.text) else []

-- a system number: under the source in its parentheses
abbrev pub system_number_in : Subfield → List (List ℕ × List ℕ)
system_number_in s = if is_a s then option_to_list (system_key s.text) else []

-- the LCCN of each $a of a field 010, and the system number of each $a of a field 035
abbrev pub numbers_in : Field → List (List ℕ × List ℕ)
numbers_in f = from_field (codes "010") lccn_in f ++ from_field (codes "035") system_number_in f

-- the control pairs of a record: its own, the one that 001 and 003 assign, and those in its fields
abbrev pub control_of : List ℕ → Record → List (List ℕ × List ℕ)
control_of library r = own_pair library r ∷ assigned_pair r ++ flat_map numbers_in r.fields

-- leader/06 and 07
abbrev pub types_of : Record → List (List ℕ)
types_of r = (r.leader.kind ∷ r.leader.level ∷ []) ∷ []

-- each 020 $a that is an ISBN
abbrev pub isbn_in : Subfield → List (List ℕ)
isbn_in s = if is_a s then option_to_list (isbn_key s.text) else []

-- the ISBNs of a field 020
abbrev pub isbns_in : Field → List (List ℕ)
isbns_in f = from_field (codes "020") isbn_in f

-- each 022 $a that is an ISSN
abbrev pub issn_in : Subfield → List (List ℕ)
issn_in s = if is_a s then option_to_list (issn_key s.text) else []

-- the ISSNs of a field 022
abbrev pub issns_in : Field → List (List ℕ)
issns_in f = from_field (codes "022") issn_in f

-- the title of the 245, where it is not empty
abbrev pub title_in : Field → List (List ℕ)
title_in f = if has_tag (codes "245") f then where_not_empty (title245_of f) else []

-- 008/07-10, where these are four digits
abbrev pub date_in : List ℕ → List (List ℕ)
date_in text =
    let date = slice_range text 7 11 in
    if (length date == 4) && list_all is_ascii_digit date then date ∷ [] else []

-- a field under a name: 100, 110 or 111
abbrev pub is_name : Field → Bool
is_name f = has_tag (codes "100") f || has_tag (codes "110") f || has_tag (codes "111") f

-- the name of a field 100, 110 or 111, where it is not empty
abbrev pub name_in : Field → List (List ℕ)
name_in f = if is_name f then where_not_empty (name_of f) else []

-- the features of a record that a library loads
abbrev pub features : List ℕ → Record → Features
features library r = record {
  control = set_of pairs_cmp (control_of library r);
  types = set_of texts_cmp (types_of r);
  isbns = set_of texts_cmp (flat_map isbns_in r.fields);
  issns = set_of texts_cmp (flat_map issns_in r.fields);
  titles = set_of texts_cmp (flat_map title_in r.fields);
  dates = set_of texts_cmp (date_in (text_under (codes "008") r.fields));
  names = set_of texts_cmp (flat_map name_in r.fields);
  kept = kept_sets (control_of library r) (types_of r) (flat_map isbns_in r.fields) (flat_map issns_in r.fields)
      (flat_map title_in r.fields) (date_in (text_under (codes "008") r.fields)) (flat_map name_in r.fields) refl;
}
