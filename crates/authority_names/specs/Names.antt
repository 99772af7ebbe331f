-- The names that authority records give: which heading stands for which (MARC 21 Format for Authority Data, fields 1XX and
-- 4XX). This is what a table of names means.
use Rattle.std.specs.Prelude.{◌≡◌, ◌↔◌, ℕ, Bool, List, [], ◌∷◌, Option, None, Some, IsSome, if◌then◌else◌, nat_eq, map, filter, length, unwrap_or, Contains}
use Rattle.std.specs.List.{list_any, list_all, IsDistinct}
use Rattle.std.specs.Cmp.Lexicographic.{pointwise}

-- two headings are one where they are equal byte for byte
abbrev pub is_same : List ℕ → List ℕ → Bool
is_same x y = pointwise nat_eq x y

-- what a record gives: its established heading, and the headings from which a reader is to see that one
pub record Authority : Type 0 where
  pub established : List ℕ
  pub variants : List (List ℕ)

-- the record with these headings
abbrev pub authority : List ℕ → List (List ℕ) → Authority
authority established variants = record { established = established; variants = variants }

-- x is the established heading of some record
abbrev pub is_established : List Authority → List ℕ → Bool
is_established records x = list_any (λ r. is_same r.established x) records

-- the record has the see-from heading x
abbrev pub has_variant : List ℕ → Authority → Bool
has_variant x r = list_any (λ v. is_same v x) r.variants

-- the established headings of all records that have the see-from heading x
abbrev pub led_to : List Authority → List ℕ → List (List ℕ)
led_to records x = map (λ r. r.established) (filter (has_variant x) records)

-- the one heading that stands in the list, once or more often
abbrev pub the_one : List (List ℕ) → Option (List ℕ)
the_one [] = None
the_one (t ∷ ts) = if list_all (is_same t) ts then Some t else None

-- the table of the records at x: t, where x is no established heading of any record, and t is the one established heading
-- of all records that have the see-from heading x
abbrev pub name_at : List Authority → List ℕ → Option (List ℕ)
name_at records x = if is_established records x then None else the_one (led_to records x)

-- the heading to use for x: the table's, or x itself where the table has none
abbrev pub see : List Authority → List ℕ → List ℕ
see records x = unwrap_or (name_at records x) x

-- the table has `size` headings: those of a list without repeats are the ones at which it has a value
pub record IsSize (table : List ℕ → Option (List ℕ)) (size : ℕ) : Type 0 where
  pub headings : List (List ℕ)
  pub distinct : IsDistinct (pointwise nat_eq) headings
  pub exact : (x : List ℕ) → Contains headings x ↔ IsSome (table x)
  pub counted : length headings ≡ size
