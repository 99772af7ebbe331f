-- Fields in order of their tags.
use Rattle.std.proofs.Common.{◌≡◌, ℕ, suc, ◌+◌, Bool, true, false, ◌&&◌, List, [], ◌∷◌, ◌++◌, length, map, length-append, refl, ◌∙◌, ap, arith}
use Rattle.std.specs.Prelude.{if◌then◌else◌}
use Rattle.std.specs.Cmp.{IsStrictWeakOrder}
use Rattle.std.specs.Cmp.Lexicographic.{nat_list_cmp_total}
use Rattle.std.specs.List.{list_all, flat_map}
use Rattle.std.proofs.lemmas.List.Sorted.{ranks_by}
use Rattle.union_base.specs.declared.field.Field.{Field}
use Rattle.catalogue_export.specs.TagOrder.{is_lower, put_by_tag, in_tag_order}
use Rattle.catalogue_export.proofs.StableLaws.{put_before, in_order}

-- tags are in an order
pub is_lower-order : IsStrictWeakOrder is_lower
is_lower-order = ranks_by nat_list_cmp_total (λ f. f.tag)

put-is : (f : Field) (fields : List Field) → put_by_tag f fields ≡ put_before is_lower f fields
put-is f [] = refl
put-is f (g ∷ fields) = ap (λ rest. if is_lower g f then g ∷ rest else f ∷ g ∷ fields) (put-is f fields)

pub in_tag_order-is : (fields : List Field) → in_tag_order fields ≡ in_order is_lower fields
in_tag_order-is [] = refl
in_tag_order-is (f ∷ fields) = ap (put_by_tag f) (in_tag_order-is fields) ∙ put-is f (in_order is_lower fields)

module _ {X : Type 0} (see : X → Field) where
  -- the tag of the field that is seen of the first is less
  abbrev pub seen_lower : X → X → Bool
  seen_lower x y = is_lower (see x) (see y)

  pub seen_lower-order : IsStrictWeakOrder seen_lower
  seen_lower-order = ranks_by nat_list_cmp_total (λ x. (see x).tag)

  put-seen : (x : X) (xs : List X) → map see (put_before seen_lower x xs) ≡ put_by_tag (see x) (map see xs)
  put-seen x [] = refl
  put-seen x (y ∷ ys) =
      elim (is_lower (see y) (see x)) as (λ r. map see (if r then y ∷ put_before seen_lower x ys else x ∷ y ∷ ys)
      ≡ (if r then see y ∷ put_by_tag (see x) (map see ys) else see x ∷ see y ∷ map see ys)) [
        | true ↦ ap (λ rest. see y ∷ rest) (put-seen x ys)
        | false ↦ refl
      ]

  -- the fields that are seen of values in order of tags are in order of tags
  pub in_order-seen : (xs : List X) → map see (in_order seen_lower xs) ≡ in_tag_order (map see xs)
  in_order-seen [] = refl
  in_order-seen (x ∷ xs) = put-seen x (in_order seen_lower xs) ∙ ap (put_by_tag (see x)) (in_order-seen xs)

-- a test that all the fields pass in one order they pass in the other
put-all : (p : Field → Bool) (f : Field) (fields : List Field) → list_all p (put_by_tag f fields) ≡ (p f && list_all p fields)
put-all p f [] = refl
put-all p f (g ∷ fields) =
    elim (is_lower g f) as (λ r. list_all p (if r then g ∷ put_by_tag f fields else f ∷ g ∷ fields) ≡ (p f && (p g && list_all p fields))) [
      | true ↦ ap (λ b. p g && b) (put-all p f fields) ∙ turned (p g) (p f) (list_all p fields)
      | false ↦ refl
    ]
  where
    turned : (a b c : Bool) → (a && (b && c)) ≡ (b && (a && c))
    turned true true c = refl
    turned true false c = refl
    turned false true c = refl
    turned false false c = refl

pub in_tag_order-all : (p : Field → Bool) (fields : List Field) → list_all p (in_tag_order fields) ≡ list_all p fields
in_tag_order-all p [] = refl
in_tag_order-all p (f ∷ fields) = put-all p f (in_tag_order fields) ∙ ap (λ b. p f && b) (in_tag_order-all p fields)

-- in either order they are as many, and spelled one after the other they have as many bytes
put-size : (f : Field) (fields : List Field) → length (put_by_tag f fields) ≡ suc (length fields)
put-size f [] = refl
put-size f (g ∷ fields) =
    elim (is_lower g f) as (λ r. length (if r then g ∷ put_by_tag f fields else f ∷ g ∷ fields) ≡ suc (suc (length fields))) [
      | true ↦ ap suc (put-size f fields)
      | false ↦ refl
    ]

pub in_tag_order-size : (fields : List Field) → length (in_tag_order fields) ≡ length fields
in_tag_order-size [] = refl
in_tag_order-size (f ∷ fields) = put-size f (in_tag_order fields) ∙ ap suc (in_tag_order-size fields)

module _ (spell : Field → List ℕ) where
  put-bytes : (f : Field) (fields : List Field) → length (flat_map spell (put_by_tag f fields)) ≡ length (spell f) + length (flat_map spell fields)
  put-bytes f [] = length-append (spell f) []
  put-bytes f (g ∷ fields) =
      elim (is_lower g f) as (λ r. length (flat_map spell (if r then g ∷ put_by_tag f fields else f ∷ g ∷ fields)) ≡ length (spell f) + length (spell g ++ flat_map spell fields)) [
        | true ↦ omega (arith, length-append (spell g) (flat_map spell (put_by_tag f fields)), length-append (spell g) (flat_map spell fields), put-bytes f fields)
        | false ↦ length-append (spell f) (spell g ++ flat_map spell fields)
      ]

  pub in_tag_order-bytes : (fields : List Field) → length (flat_map spell (in_tag_order fields)) ≡ length (flat_map spell fields)
  in_tag_order-bytes [] = refl
  in_tag_order-bytes (f ∷ fields) =
      omega (arith, put-bytes f (in_tag_order fields), in_tag_order-bytes fields, length-append (spell f) (flat_map spell fields))
