-- What holds of the least name.
use Rattle.std.specs.Prelude.{ℕ, ◌≡◌, ◌⊎◌, false, List, [], map, Contains}
use Rattle.std.specs.Ordering.{nat_cmp, is_lt}
use Rattle.std.specs.Cmp.Lexicographic.{slice_cmp}
use Rattle.union_base.specs.declared.field.Field.{Field}
use Rattle.naco_normal.specs.Words.{is_empty}
use Rattle.workset_keys.specs.Names.{name_of}
use Rattle.workset_keys.specs.WorkKeys.{least_of, least_name}

-- the name is one of these and not empty, and none of these that is not empty comes before it in the order of bytes
pub record IsLeastOf (names : List (List ℕ)) (text : List ℕ) : Type 0 where
  pub member : Contains names text
  pub some : is_empty text ≡ false
  pub least : (name : List ℕ) → Contains names name → is_empty name ≡ false → is_lt (slice_cmp nat_cmp name text) ≡ false

-- all of these names are empty, and so is that one
pub record AreEmpty (names : List (List ℕ)) (text : List ℕ) : Type 0 where
  pub all : (name : List ℕ) → Contains names name → name ≡ []
  pub none : text ≡ []

-- the text is a least one of the names that are not empty, or empty where all are
abbrev pub IsLeastOrNone : List (List ℕ) → List ℕ → Type 0
IsLeastOrNone names text = AreEmpty names text ⊎ IsLeastOf names text

-- the least of names, wherever they come from, is a least one of them
abbrev pub LeastIsLeast : Type 0
LeastIsLeast = (names : List (List ℕ)) → IsLeastOrNone names (least_of names)

-- the least name of fields is a least one of their names
abbrev pub LeastNameIsLeast : Type 0
LeastNameIsLeast = (fields : List Field) → IsLeastOrNone (map name_of fields) (least_name fields)
