-- What several workers made of the shares of a list.
use Rattle.std.proofs.Common.{◌≡◌, ℕ, suc, ◌+◌, ◌*◌, ◌<◌, ◌≤◌, List, [], ◌∷◌, length, get_or, take, drop, sym, ap, subst, ◌∙◌, arith, length-drop, zero-mul, suc-mul}
use Rattle.std.specs.Prelude.{Result, IfOk}
use Rattle.std.proofs.lemmas.List.{drop-drop, nil_from_length}

-- each thing that was made is that of the next `size` values of the list, and the last one that of what is left
abbrev pub AreShares : {A T E : Type 0} → ℕ → (List A → T → Type 0) → List A → List (Result T E) → Type 0
AreShares size Is list [] = list ≡ []
AreShares size Is list (made ∷ more) = IfOk made (Is (take size list)) × AreShares size Is (drop size list) more

-- so it is where that is known of each by its place
pub are-shares : {A T E : Type 0} (size : ℕ) (Is : List A → T → Type 0) (list : List A) (made : List (Result T E)) → length list ≤ length made * size
    → ((n : ℕ) (d : Result T E) → n < length made → IfOk (get_or made n d) (Is (take size (drop (n * size) list))))
    → AreShares size Is list made
are-shares size Is list [] few each = nil_from_length list (omega (arith, few, zero-mul size))
are-shares size Is list (one ∷ more) few each = (
  subst (λ k. IfOk one (Is (take size (drop k list)))) (zero-mul size) (each 0 one (omega arith)),
  are-shares size Is (drop size list) more (omega (arith, few, suc-mul (length more) size, length-drop size list))
      (λ n d within.
      let far : suc n * size ≡ size + n * size = omega (arith, suc-mul n size) in
      subst (λ values. IfOk (get_or more n d) (Is (take size values))) (ap (λ k. drop k list) far ∙ sym (drop-drop (n * size) size list))
      (each (suc n) d (omega (arith, within)))),
)
