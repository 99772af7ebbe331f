-- A walk over a list.
use Rattle.std.proofs.Common.{◌≡◌, ℕ, zero, suc, ◌+◌, List, [], ◌∷◌, ap, ◌∙◌}
use Rattle.std.specs.Prelude.{slice_get}
use Rattle.std.specs.declared.option.Option.TheVariants.{Some, None}
use Rattle.std.specs.List.{flat_map}
use Rattle.std.proofs.Common.{◌<◌, length, ◌++◌, take, append-nil, arith}
use Rattle.std.proofs.lemmas.List.{take_more}
use Rattle.std.proofs.lemmas.List.Concat.{flat_map-cons}
use Rattle.std.proofs.lemmas.Grind.{flat_map-append}
use Rattle.std.proofs.lemmas.Option.{slice_get_within, get_or_from_slice_get}

-- what is told of one more of a list
pub told-more : {X A : Type 0} (f : X → List A) (xs : List X) (place : ℕ) (x : X) → slice_get xs place ≡ Some x
    → flat_map f (take (place + 1) xs) ≡ flat_map f (take place xs) ++ f x
told-more f xs place x at =
    ap (flat_map f) (take_more xs place x (slice_get_within xs place x at) ∙ ap (λ y. take place xs ++ y ∷ []) (get_or_from_slice_get xs place x x at))
    ∙ flat_map-append f (take place xs) (x ∷ [])
    ∙ ap (λ t. flat_map f (take place xs) ++ t) (flat_map-cons f x [] ∙ append-nil (f x))

-- within a list there is a value at each place
pub some-within : {X : Type 0} (xs : List X) (place : ℕ) → place < length xs → slice_get xs place ≡ None → ⊥
some-within [] place within none = absurd (omega arith)
some-within (x ∷ xs) zero within none = cc
some-within (x ∷ xs) (suc place) within none = some-within xs place (omega arith) none
