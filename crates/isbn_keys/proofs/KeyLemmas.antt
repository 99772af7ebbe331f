-- What the loops over a number's characters have done.
use Rattle.std.proofs.Common.{◌≡◌, ℕ, ◌+◌, ◌<◌, ◌≤◌, Bool, true, false, cond, not, eqb, List, [], ◌∷◌, ◌++◌, take, drop, length, get_or, refl, ap, ◌∙◌, drop_of_length-le, eqb-true, length-append, arith}
use Rattle.std.proofs.lemmas.List.{take_more, take-append-drop}
use Rattle.std.proofs.lemmas.List.Elements.{filter-append}
use Rattle.isbn_keys.specs.Check.{weighted_sum}
use Rattle.isbn_keys.specs.Isbn.{without_hyphens}

weighted_sum-nil : (ws : List ℕ) → weighted_sum ws [] ≡ 0
weighted_sum-nil [] = refl
weighted_sum-nil (w ∷ ws) = refl

-- past the last character there is nothing to sum
pub weighted_sum-end : (ws cs : List ℕ) (place : ℕ) → length cs ≤ place → weighted_sum (drop place ws) (drop place cs) ≡ 0
weighted_sum-end ws cs place h = ap (weighted_sum (drop place ws)) (drop_of_length-le cs h) ∙ weighted_sum-nil (drop place ws)

-- one more character
without_hyphens-more : (xs : List ℕ) (i c : ℕ) → i < length xs → get_or xs i 0 ≡ c → without_hyphens (take (i + 1) xs) ≡ without_hyphens (take i xs) ++ without_hyphens (c ∷ [])
without_hyphens-more xs i c h e = ap without_hyphens (take_more xs i 0 h ∙ ap (λ x. take i xs ++ (x ∷ [])) e) ∙ filter-append _ (take i xs) (c ∷ [])

-- a character that is no hyphen stays
pub without_hyphens-kept : (xs : List ℕ) (i c : ℕ) → i < length xs → get_or xs i 0 ≡ c → ¬ (c ≡ 0x2D) → without_hyphens (take (i + 1) xs) ≡ without_hyphens (take i xs) ++ c ∷ []
without_hyphens-kept xs i c h e other =
    without_hyphens-more xs i c h e ∙ ap (λ b. without_hyphens (take i xs) ++ cond (not b) (c ∷ []) []) (no_hyphen (eqb c 0x2D) refl)
  where
    no_hyphen : (b : Bool) → eqb c 0x2D ≡ b → eqb c 0x2D ≡ false
    no_hyphen true same = absurd (other (eqb-true c 0x2D same))
    no_hyphen false same = same

-- a prefix leaves no more than the whole
pub length-without_hyphens-take : (xs : List ℕ) (n : ℕ) → length (without_hyphens (take n xs)) ≤ length (without_hyphens xs)
length-without_hyphens-take xs n =
    let parts = filter-append (λ c. not (eqb c 0x2D)) (take n xs) (drop n xs) in
    let whole = ap without_hyphens (take-append-drop n xs) in
    omega (arith, ap length parts, ap length whole, length-append (without_hyphens (take n xs)) (without_hyphens (drop n xs)))
