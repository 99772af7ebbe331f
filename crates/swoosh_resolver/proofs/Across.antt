-- Pairs of the members of two lists, one after the other.
use Rattle.std.proofs.Common.{List, [], ◌∷◌, ◌++◌, subst, inl, inr, arith}
use Rattle.std.specs.Prelude.{AllPairs, Contains}
use Rattle.std.proofs.lemmas.List.Elements.{Contains-append_right}
use Rattle.merge_laws.proofs.Places.{AllPairs-first, AllPairs-rest, Contains-cases}

-- a member of the first list and one of the second
pub AllPairs-across : {A : Type 0} (R : A → A → Type 0) (xs ys : List A) → AllPairs R (xs ++ ys) → (x y : A) → Contains xs x → Contains ys y → R x y
AllPairs-across R [] ys all x y (k, kl, e) cy = absurd (omega arith)
AllPairs-across R (z ∷ xs) ys all x y cx cy =
    elim (Contains-cases z xs x cx) [
      | inl same ↦ subst (λ w. R w y) same (AllPairs-first R z (xs ++ ys) all y (Contains-append_right xs ys y cy))
      | inr later ↦ AllPairs-across R xs ys (AllPairs-rest R z (xs ++ ys) all) x y later cy
    ]

-- those of the second list
pub AllPairs-after : {A : Type 0} (R : A → A → Type 0) (xs ys : List A) → AllPairs R (xs ++ ys) → AllPairs R ys
AllPairs-after R [] ys all = all
AllPairs-after R (x ∷ xs) ys all = AllPairs-after R xs ys (AllPairs-rest R x (xs ++ ys) all)
