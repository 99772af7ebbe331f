-- The zeros before a number.
use Rattle.std.proofs.Common.{◌≡◌, ℕ, ◌-◌, min, List, [], length, take, drop, inl, inr, sym, ap, ◌∙◌, arith, take_all}
use Rattle.std.proofs.lemmas.Bool.{cases_lt}
use Rattle.std.proofs.lemmas.List.{drop_all, length-drop}

-- as many zeros as a number with `digits` digits lacks
pub zeros-before : (digits most : ℕ) (zeros : List ℕ) → length zeros ≡ most
    → take (most - min digits most) (drop (min digits most) zeros) ≡ drop digits zeros
zeros-before digits most zeros long =
    elim (cases_lt most digits) [
      | inl more ↦
          let least : min digits most ≡ most = omega arith in
          ap (λ n. take (most - n) (drop n zeros)) least ∙ ap (take (most - most)) (drop_all most zeros (omega arith)) ∙ nothing (most - most)
          ∙ sym (drop_all digits zeros (omega arith))
      | inr fewer ↦
          let least : min digits most ≡ digits = omega arith in
          ap (λ n. take (most - n) (drop n zeros)) least ∙ take_all (most - digits) (drop digits zeros) (omega (arith, length-drop digits zeros))
    ]
  where
    nothing : (n : ℕ) → take {A = ℕ} n [] ≡ []
    nothing n = take_all {A = ℕ} n [] (omega arith)
