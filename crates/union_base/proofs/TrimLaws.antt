-- What a byte at the end of a text does to its trimming.
use Rattle.std.proofs.Common.{◌≡◌, ℕ, true, false, List, [], ◌∷◌, ◌++◌, refl, ap, arith}
use Rattle.std.proofs.lemmas.Bool.Decides.{nat_tests}
use Rattle.std.specs.Prelude.{◌==◌}
use Rattle.union_base.specs.Blanks.{trim_end, before_trimmed}

alike : (m n : ℕ) → m ≡ n → (m == n) ≡ true
alike m n h = grind (arith, nat_tests)

differ : (m n : ℕ) → (m ≡ n → ⊥) → (m == n) ≡ false
differ m n h = grind (arith, nat_tests)

-- a blank at the end goes
pub trim_end-blank : (t : List ℕ) (b : ℕ) → b ≡ 0x20 → trim_end (t ++ b ∷ []) ≡ trim_end t
trim_end-blank [] b is = let one : (b == 0x20) ≡ true = alike b 0x20 is in rw one refl
trim_end-blank (x ∷ t) b is = ap (before_trimmed x) (trim_end-blank t b is)

-- another byte at the end stays, with all before it
pub trim_end-kept : (t : List ℕ) (b : ℕ) → (b ≡ 0x20 → ⊥) → trim_end (t ++ b ∷ []) ≡ t ++ b ∷ []
trim_end-kept [] b other = let none : (b == 0x20) ≡ false = differ b 0x20 other in rw none refl
trim_end-kept (x ∷ []) b other =
    let none : (b == 0x20) ≡ false = differ b 0x20 other in rw none refl
trim_end-kept (x ∷ y ∷ t) b other = ap (before_trimmed x) (trim_end-kept (y ∷ t) b other)
