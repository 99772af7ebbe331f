-- The least name of the added entries of a merge is the lesser of those of its sides.
use Rattle.std.proofs.Common.{◌≡◌, ℕ, List, [], ◌∷◌, ◌++◌, refl, sym, ap, ◌∙◌}
use Rattle.std.specs.Prelude.{if◌then◌else◌, Option, Some, None, map, filter, fold}
use Rattle.std.specs.declared.cmp.Ordering.{Ordering}
use Rattle.std.specs.declared.cmp.Ordering.TheVariants.{Less, Equal, Greater}
use Rattle.std.specs.Ordering.{nat_cmp, is_lt, match_ordering, on, flip_args}
use Rattle.std.specs.Option.{option_cmp}
use Rattle.std.specs.Cmp.{IsTotalOrder, on_total, back_total}
use Rattle.std.specs.Cmp.Lexicographic.{slice_cmp, options_total, nat_list_cmp_total}
use Rattle.std.specs.FinMap.{IsAntisymmetric}
use Rattle.std.proofs.lemmas.List.{map-append}
use Rattle.std.proofs.lemmas.List.Elements.{filter-append}
use Rattle.std.proofs.lemmas.List.Sums.{fold-append}
use Rattle.union_base.specs.SortedLists.{put, union}
use Rattle.union_base.specs.FieldOrder.{field_cmp}
use Rattle.union_base.specs.FieldLaws.{field_cmp-IsAntisymmetric}
use Rattle.union_base.specs.Ties.{texts_apart}
use Rattle.union_base.specs.declared.field.Field.{Field}
use Rattle.field_merge.specs.Merging.{greater}
use Rattle.field_merge.specs.GreaterLaws.{greater-idempotent, greater-commutative, greater-associative}
use Rattle.workset_keys.specs.Names.{name_of}
use Rattle.workset_keys.specs.WorkKeys.{lesser, least_of}
use Rattle.authority_names.specs.Leads.{Table, used_for}
use Rattle.record_editions.specs.EditionKeys.{is_added_entry, added_names}

-- ---- the lesser of two names

-- a name, or none where it is empty
abbrev or_none : List ℕ → Option (List ℕ)
or_none [] = None
or_none (c ∷ cs) = Some (c ∷ cs)

-- the order of bytes the other way round, with the empty name below all
abbrev back_cmp : List ℕ → List ℕ → Ordering
back_cmp = on or_none (option_cmp (flip_args (slice_cmp nat_cmp)))

back_names : IsTotalOrder back_cmp
back_names = on_total or_none (options_total (back_total nat_list_cmp_total))

-- names that compare equal are one
back_apart : IsAntisymmetric back_cmp
back_apart [] [] e = refl
back_apart [] (d ∷ ds) e = cc
back_apart (c ∷ cs) [] e = cc
back_apart (c ∷ cs) (d ∷ ds) e = sym (texts_apart (d ∷ ds) (c ∷ cs) e)

chosen : (o : Ordering) (x y : List ℕ) → (if is_lt o then y else x) ≡ match_ordering o y x x
chosen Less x y = refl
chosen Equal x y = refl
chosen Greater x y = refl

-- the lesser of two names is the greater in that order
lesser-is : (x y : List ℕ) → lesser x y ≡ greater back_cmp x y
lesser-is [] [] = refl
lesser-is [] (d ∷ ds) = refl
lesser-is (c ∷ cs) [] = refl
lesser-is (c ∷ cs) (d ∷ ds) = chosen (slice_cmp nat_cmp (d ∷ ds) (c ∷ cs)) (c ∷ cs) (d ∷ ds)

lesser-idempotent : (x : List ℕ) → lesser x x ≡ x
lesser-idempotent x = lesser-is x x ∙ greater-idempotent back_cmp x

lesser-commutative : (x y : List ℕ) → lesser x y ≡ lesser y x
lesser-commutative x y = lesser-is x y ∙ greater-commutative back_cmp back_names back_apart x y ∙ sym (lesser-is y x)

lesser-associative : (x y z : List ℕ) → lesser (lesser x y) z ≡ lesser x (lesser y z)
lesser-associative x y z =
    lesser-is (lesser x y) z ∙ ap (λ t. greater back_cmp t z) (lesser-is x y)
    ∙ greater-associative back_cmp back_names x y z
    ∙ sym (lesser-is x (lesser y z) ∙ ap (greater back_cmp x) (lesser-is y z))

lesser-none : (x : List ℕ) → lesser x [] ≡ x
lesser-none [] = refl
lesser-none (c ∷ cs) = refl

lesser-again : (x y : List ℕ) → lesser x (lesser x y) ≡ lesser x y
lesser-again x y = sym (lesser-associative x x y) ∙ ap (λ t. lesser t y) (lesser-idempotent x)

lesser-swapped : (x y z : List ℕ) → lesser x (lesser y z) ≡ lesser y (lesser x z)
lesser-swapped x y z = sym (lesser-associative x y z) ∙ ap (λ t. lesser t z) (lesser-commutative x y) ∙ lesser-associative y x z

-- ---- the least of names

-- a name in front is compared at last
least-in_front : (x y : List ℕ) (names : List (List ℕ)) → fold lesser (lesser x y) names ≡ lesser x (fold lesser y names)
least-in_front x y [] = refl
least-in_front x y (z ∷ names) = ap (λ t. fold lesser t names) (lesser-associative x y z) ∙ least-in_front x (lesser y z) names

-- the least of two lists of names is the lesser of theirs
pub least-append : (xs ys : List (List ℕ)) → least_of (xs ++ ys) ≡ lesser (least_of xs) (least_of ys)
least-append xs ys =
    fold-append lesser [] xs ys ∙ ap (λ t. fold lesser t ys) (sym (lesser-none (least_of xs))) ∙ least-in_front (least_of xs) [] ys

-- ---- the least name of added entries

module _ (names : Table) where
  -- the least name of the added entries among the fields
  abbrev least_in : List Field → List ℕ
  least_in fields = least_of (added_names names fields)

  least-first : (f : Field) (fields : List Field) → least_in (f ∷ fields) ≡ lesser (least_in (f ∷ [])) (least_in fields)
  least-first f fields =
      ap (λ added. least_of (map (λ g. used_for names (name_of g)) added)) (filter-append is_added_entry (f ∷ []) fields)
      ∙ ap least_of (map-append (λ g. used_for names (name_of g)) (filter is_added_entry (f ∷ [])) (filter is_added_entry fields))
      ∙ least-append (added_names names (f ∷ [])) (added_names names fields)

  least-put : (f : Field) (fields : List Field) → least_in (put field_cmp f fields) ≡ lesser (least_in (f ∷ [])) (least_in fields)
  least-put f [] = sym (lesser-none (least_in (f ∷ [])))
  least-put f (g ∷ fields) =
      let whole = least-first g fields in
      elim (field_cmp f g) as (λ r. field_cmp f g ≡ r
      → least_in (match_ordering r (f ∷ g ∷ fields) (g ∷ fields) (g ∷ put field_cmp f fields)) ≡ lesser (least_in (f ∷ [])) (least_in (g ∷ fields))) [
        | Less ↦ λ e. least-first f (g ∷ fields)
        | Equal ↦ λ e.
            whole ∙ sym (lesser-again (least_in (g ∷ [])) (least_in fields)) ∙ ap (lesser (least_in (g ∷ []))) (sym whole)
            ∙ ap (λ h. lesser (least_in (h ∷ [])) (least_in (g ∷ fields))) (sym (field_cmp-IsAntisymmetric f g e))
        | Greater ↦ λ e.
            least-first g (put field_cmp f fields) ∙ ap (lesser (least_in (g ∷ []))) (least-put f fields)
            ∙ lesser-swapped (least_in (g ∷ [])) (least_in (f ∷ [])) (least_in fields) ∙ ap (lesser (least_in (f ∷ []))) (sym whole)
      ] refl

  -- the least name of a union is the lesser of those of its sides
  pub least-union : (xs ys : List Field) → least_in (union field_cmp xs ys) ≡ lesser (least_in xs) (least_in ys)
  least-union xs [] = sym (lesser-none (least_in xs))
  least-union xs (f ∷ ys) =
      least-put f (union field_cmp xs ys) ∙ ap (lesser (least_in (f ∷ []))) (least-union xs ys)
      ∙ lesser-swapped (least_in (f ∷ [])) (least_in xs) (least_in ys) ∙ ap (lesser (least_in xs)) (sym (least-first f ys))
