-- What two editions that do not match have in common, and what not, as text.
use Rattle.std.specs.Prelude.{ℕ, ◌==◌, if◌then◌else◌, List, [], ◌∷◌, ◌++◌, length, codes, Option, Some, None}
use Rattle.std.specs.List.{flat_map}
use Rattle.std.specs.declared.cmp.Ordering.{Ordering}
use Rattle.match_features.specs.Kept.{texts_cmp, pairs_cmp}
use Rattle.match_features.specs.declared.features.Features.{Features}
use Rattle.edition_derivations.specs.Common.{first_common}

module _ {K : Type 0} (spelled : K → List ℕ) where
  -- a comma, a blank and the value
  abbrev pub next_value : K → List ℕ
  next_value x = codes ", " ++ spelled x

  -- the values, with a comma between two
  abbrev pub values_text : List K → List ℕ
  values_text [] = []
  values_text (x ∷ xs) = spelled x ++ flat_map next_value xs

  -- words, and then values
  abbrev pub after_text : List ℕ → List K → List ℕ
  after_text words xs = words ++ values_text xs

  -- the values of both
  abbrev pub both_text : List K → List K → List ℕ
  both_text xs ys = after_text (codes "differs: ") xs ++ after_text (codes " and ") ys

  -- what each has, where they have no value in common
  abbrev pub unlike_text : List K → List K → List ℕ
  unlike_text xs ys =
      (if length xs == 0
      then (if length ys == 0 then codes "neither has one" else after_text (codes "only the second has one: ") ys)
      else (if length ys == 0 then after_text (codes "only the first has one: ") xs else both_text xs ys))

  -- a value that both have; where there is none, what each has
  abbrev pub compared_text : Option K → List K → List K → List ℕ
  compared_text (Some x) xs ys = codes "same: " ++ spelled x
  compared_text None xs ys = unlike_text xs ys

-- the line under this name
abbrev pub line_text : {K : Type 0} → (K → K → Ordering) → (K → List ℕ) → List ℕ → List K → List K → List ℕ
line_text cmp spelled name xs ys = name ++ (compared_text spelled (first_common cmp xs ys) xs ys ++ codes "\n")

-- a control number that is common to both
abbrev pub common_pair : List ℕ × List ℕ → List ℕ
common_pair pair = codes "control   same: (" ++ (pair.0 ++ (codes ")" ++ (pair.1 ++ codes "\n")))

-- whether a control number is common to both
abbrev pub control_told : Option (List ℕ × List ℕ) → List ℕ
control_told None = codes "control   none in common\n"
control_told (Some pair) = common_pair pair

abbrev pub same : List ℕ → List ℕ
same text = text

-- the numbers, the title, the name, the date and the type of two editions
unfoldable pub differences_text : Features → Features → List ℕ
differences_text x y =
    control_told (first_common pairs_cmp x.control y.control)
    ++ (line_text texts_cmp same (codes "ISBN      ") x.isbns y.isbns
    ++ (line_text texts_cmp same (codes "ISSN      ") x.issns y.issns
    ++ (line_text texts_cmp same (codes "title     ") x.titles y.titles
    ++ (line_text texts_cmp same (codes "name      ") x.names y.names
    ++ (line_text texts_cmp same (codes "date      ") x.dates y.dates
    ++ line_text texts_cmp same (codes "type      ") x.types y.types)))))
