-- What is told of the members of a list, with one of them in the middle.
use Rattle.std.proofs.Common.{◌≡◌, ℕ, zero, suc, ◌+◌, ◌<◌, Bor, List, [], ◌∷◌, length, map, get_or, ◌++◌, arith, take, drop, append_assoc, take-append-drop, sym, ap, ◌∙◌}
use Rattle.std.specs.Prelude.{slice_get, Some}
use Rattle.std.specs.List.{flat_map}
use Rattle.std.proofs.lemmas.Grind.{flat_map-append}
use Rattle.catalogue_core.proofs.WalkLaws.{told-more}

-- what is told of all, with one of them in the middle
pub told-around : {X A : Type 0} (f : X → List A) (xs : List X) (place : ℕ) (x : X) → slice_get xs place ≡ Some x
    → flat_map f xs ≡ flat_map f (take place xs) ++ (f x ++ flat_map f (drop (place + 1) xs))
told-around f xs place x at =
    ap (flat_map f) (sym (take-append-drop (place + 1) xs))
    ∙ flat_map-append f (take (place + 1) xs) (drop (place + 1) xs)
    ∙ ap (λ t. t ++ flat_map f (drop (place + 1) xs)) (told-more f xs place x at)
    ∙ append_assoc (flat_map f (take place xs)) (f x) (flat_map f (drop (place + 1) xs))

-- an edition that a list refers to
pub seen-at : {X : Type 0} (seen : List (Bor X)) (place : ℕ) (x : Bor X) → place < length seen → x ≡ get_or seen place x
    → slice_get (map (λ e. e.now) seen) place ≡ Some x.now
seen-at [] place x within is = absurd (omega arith)
seen-at (y ∷ seen) zero x within is = ap (λ (e : Bor _). Some e.now) (sym is)
seen-at (y ∷ seen) (suc place) x within is = seen-at seen place x (omega (arith, within)) is
