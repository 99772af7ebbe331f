-- The members of what a function finds in a list.
use Rattle.std.proofs.Common.{◌≡◌, List, [], ◌∷◌, Contains, refl, sym, ap, subst, ◌∙◌, inl, inr, arith}
use Rattle.std.specs.Prelude.{Option, Some, None, filter_map}
use Rattle.std.specs.List.{cons_option}
use Rattle.merge_laws.proofs.Places.{Contains-head, Contains-tail, Contains-cases}

pub mapped-from_member : {A B : Type 0} (f : A → Option B) (xs : List A) (x : A) (y : B) → Contains xs x → f x ≡ Some y → Contains (filter_map f xs) y
mapped-from_member f [] x y (k, kl, e) is = absurd (omega arith)
mapped-from_member {A} {B} f (z ∷ xs) x y c is =
    elim (Contains-cases z xs x c) [
      | inl here ↦ (let hit : f z ≡ Some y = ap f here ∙ is in
          subst (λ (o : Option B). Contains (cons_option o (filter_map f xs)) y) (sym hit) (Contains-head y (filter_map f xs)))
      | inr later ↦ (let rest = mapped-from_member f xs x y later is in
          elim (f z) as (λ o. Contains (cons_option o (filter_map f xs)) y) [ Some w ↦ Contains-tail w (filter_map f xs) y rest | None ↦ rest ])
    ]

pub member-from_mapped : {A B : Type 0} (f : A → Option B) (xs : List A) (y : B) → Contains (filter_map f xs) y → (x : A) × Contains xs x × (f x ≡ Some y)
member-from_mapped f [] y (k, kl, e) = absurd (omega arith)
member-from_mapped {A} {B} f (z ∷ xs) y c =
    elim (f z) as (λ o. f z ≡ o → Contains (cons_option o (filter_map f xs)) y → (x : A) × Contains (z ∷ xs) x × (f x ≡ Some y)) [
      | Some w ↦ λ is h. elim (Contains-cases w (filter_map f xs) y h) [
        | inl here ↦ (z, Contains-head z xs, is ∙ ap Some here)
        | inr later ↦ (let (x, cx, e) = member-from_mapped f xs y later in (x, Contains-tail z xs x cx, e))
      ]
      | None ↦ λ is h. (let (x, cx, e) = member-from_mapped f xs y h in (x, Contains-tail z xs x cx, e))
    ] refl c
