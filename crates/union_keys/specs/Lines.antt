-- What is written of records: a line for each, or for each group of them.
use Rattle.std.specs.Prelude.{◌≡◌, ℕ, List, [], ◌∷◌, ◌++◌, length, decimal}
use Rattle.std.specs.List.{flat_map}
use Rattle.std.specs.Option.{option_to_list}
use Rattle.hex.specs.Hex.{encode_lower}
use Rattle.match_features.specs.KeyLists.{posted, sought}
use Rattle.match_features.specs.declared.keys.FeatureKey.{FeatureKey}
use Rattle.match_features.specs.declared.keys.FeatureKey.TheVariants.{Control, Isbn, Issn, Title, Description, TitleOfMany}
use Rattle.catalogue_editions.specs.Resolutions.{IsOrderedResolution}
use Rattle.catalogue_editions.specs.declared.edition.Edition.{Edition}
use Rattle.union_keys.specs.declared.standing.Standing.{Standing}

-- two texts in hex, with a full stop between them
abbrev pub pair_text : List ℕ × List ℕ → List ℕ
pair_text pair = encode_lower pair.0 ++ (0x2E ∷ encode_lower pair.1)

-- a title, a date and a name in hex, with full stops between them
abbrev pub description_text : List ℕ × List ℕ × List ℕ → List ℕ
description_text key = encode_lower key.0 ++ (0x2E ∷ (encode_lower key.1 ++ (0x2E ∷ encode_lower key.2)))

-- a key: a letter for its kind, and its text in hex
abbrev pub key_text : FeatureKey → List ℕ
key_text (Control pair) = 0x63 ∷ pair_text pair
key_text (Isbn isbn) = 0x69 ∷ encode_lower isbn
key_text (Issn issn) = 0x6A ∷ encode_lower issn
key_text (Title title) = 0x74 ∷ encode_lower title
key_text (Description key) = 0x6E ∷ description_text key
key_text (TitleOfMany title) = 0x6D ∷ encode_lower title

-- a column with a key: a tab, a mark, and the key
abbrev pub key_cell : ℕ → FeatureKey → List ℕ
key_cell mark key = 0x09 ∷ (mark ∷ key_text key)

-- the keys that an edition seeks, each under an `s`, and those under which an index has it, each under a `p`
unfoldable pub key_cells : Edition → List ℕ
key_cells e = flat_map (key_cell 0x73) (sought e.features) ++ flat_map (key_cell 0x70) (posted e.features)

-- where a record stands, in three columns: `LIB.CTL`, how many bytes of its library's file are before its frame, and how many it has
unfoldable pub place_cells : Standing → List ℕ
place_cells s =
    0x09 ∷ (s.id.library ++ (0x2E ∷ (s.id.control ++ (0x09 ∷ (decimal s.first ++ (0x09 ∷ decimal s.size))))))

-- what the records load
abbrev pub editions_in : List Standing → List Edition
editions_in members = flat_map (λ s. option_to_list s.edition) members

-- a line: how many records it tells of, how many editions these resolve to, where each record stands, and the keys of each edition
unfoldable pub line_of : List Standing → List Edition → List ℕ
line_of members editions =
    decimal (length members)
    ++ (0x09 ∷ (decimal (length editions) ++ (flat_map place_cells members ++ (flat_map key_cells editions ++ 0x0A ∷ []))))

-- the line of these records was added, and they resolve to `count` editions
pub record AddsLine (members : List Standing) (before after : List ℕ) (count : ℕ) : Type 0 where
  pub editions : List Edition
  pub resolved : IsOrderedResolution (editions_in members) editions
  pub counted : count ≡ length editions
  pub text : after ≡ before ++ line_of members editions

-- the lines of these groups were added, one after the other
abbrev pub AddsLines : List (List Standing) → List ℕ → List ℕ → Type 0
AddsLines [] before after = after ≡ before
AddsLines (members ∷ rest) before after =
    (between : List ℕ) × (count : ℕ) × AddsLine members before between count × AddsLines rest between after

-- each record by itself
abbrev pub alone : List Standing → List (List Standing)
alone [] = []
alone (s ∷ rest) = (s ∷ []) ∷ alone rest
