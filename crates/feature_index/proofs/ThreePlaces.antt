-- Three places, of which the first ones hold numbers: what these are once a number is put in or taken out.
use Rattle.std.proofs.Common.{◌≡◌, ◌≢◌, ℕ, zero, suc, ◌+◌, ◌-◌, ◌<◌, ◌≤◌, List, [], ◌∷◌, length, get_or, take, refl, arith}
use Rattle.std.specs.Prelude.{Contains}
use Rattle.feature_index.specs.Postings.{Ascends, Gains, Loses}
use Rattle.feature_index.proofs.Ascending.{Gains-insert, Loses-remove}

-- three places are these
pub three_places : (p : List ℕ) → length p ≡ 3 → p ≡ get_or p 0 0 ∷ get_or p 1 0 ∷ get_or p 2 0 ∷ []
three_places [] e = absurd (omega arith)
three_places (a ∷ []) e = absurd (omega arith)
three_places (a ∷ b ∷ []) e = absurd (omega arith)
three_places (a ∷ b ∷ c ∷ []) e = refl
three_places (a ∷ b ∷ c ∷ d ∷ ds) e = absurd (omega arith)

-- a number is put in at the first place, at the second, and at the third
pub gains_first : (a b c x count : ℕ) → count < 3 → Gains (take count (a ∷ b ∷ c ∷ [])) (take (count + 1) (x ∷ a ∷ b ∷ [])) x
gains_first a b c x zero h = Gains-insert [] x 0
gains_first a b c x (suc zero) h = Gains-insert (a ∷ []) x 0
gains_first a b c x (suc (suc zero)) h = Gains-insert (a ∷ b ∷ []) x 0
gains_first a b c x (suc (suc (suc n))) h = absurd (omega arith)

pub gains_second : (a b c x count : ℕ) → 0 < count → count < 3 → Gains (take count (a ∷ b ∷ c ∷ [])) (take (count + 1) (a ∷ x ∷ b ∷ [])) x
gains_second a b c x zero l h = absurd (omega arith)
gains_second a b c x (suc zero) l h = Gains-insert (a ∷ []) x 1
gains_second a b c x (suc (suc zero)) l h = Gains-insert (a ∷ b ∷ []) x 1
gains_second a b c x (suc (suc (suc n))) l h = absurd (omega arith)

pub gains_third : (a b c x count : ℕ) → 1 < count → count < 3 → Gains (take count (a ∷ b ∷ c ∷ [])) (take (count + 1) (a ∷ b ∷ x ∷ [])) x
gains_third a b c x zero l h = absurd (omega arith)
gains_third a b c x (suc zero) l h = absurd (omega arith)
gains_third a b c x (suc (suc zero)) l h = Gains-insert (a ∷ b ∷ []) x 2
gains_third a b c x (suc (suc (suc n))) l h = absurd (omega arith)

-- a number is taken out of the first place, of the second, and of the third
pub loses_first : (a b c x count : ℕ) → count ≤ 3 → Ascends (take count (a ∷ b ∷ c ∷ [])) → Contains (take count (a ∷ b ∷ c ∷ [])) x → a ≡ x → Loses (take count (a ∷ b ∷ c ∷ [])) (take (count - 1) (b ∷ c ∷ 0 ∷ [])) x
loses_first a b c x zero h asc (k, kl, e) is = absurd (omega arith)
loses_first a b c x (suc zero) h asc there is = Loses-remove (a ∷ []) x 0 asc (omega arith) is
loses_first a b c x (suc (suc zero)) h asc there is = Loses-remove (a ∷ b ∷ []) x 0 asc (omega arith) is
loses_first a b c x (suc (suc (suc zero))) h asc there is = Loses-remove (a ∷ b ∷ c ∷ []) x 0 asc (omega arith) is
loses_first a b c x (suc (suc (suc (suc n)))) h asc there is = absurd (omega arith)

pub loses_second : (a b c x count : ℕ) → count ≤ 3 → Ascends (take count (a ∷ b ∷ c ∷ [])) → Contains (take count (a ∷ b ∷ c ∷ [])) x → a ≢ x → b ≡ x → Loses (take count (a ∷ b ∷ c ∷ [])) (take (count - 1) (a ∷ c ∷ 0 ∷ [])) x
loses_second a b c x zero h asc (k, kl, e) other is = absurd (omega arith)
loses_second a b c x (suc zero) h asc (zero, kl, e) other is = absurd (other e)
loses_second a b c x (suc zero) h asc (suc k, kl, e) other is = absurd (omega arith)
loses_second a b c x (suc (suc zero)) h asc there other is = Loses-remove (a ∷ b ∷ []) x 1 asc (omega arith) is
loses_second a b c x (suc (suc (suc zero))) h asc there other is = Loses-remove (a ∷ b ∷ c ∷ []) x 1 asc (omega arith) is
loses_second a b c x (suc (suc (suc (suc n)))) h asc there other is = absurd (omega arith)

pub loses_third : (a b c x count : ℕ) → count ≤ 3 → Ascends (take count (a ∷ b ∷ c ∷ [])) → Contains (take count (a ∷ b ∷ c ∷ [])) x → a ≢ x → b ≢ x → Loses (take count (a ∷ b ∷ c ∷ [])) (take (count - 1) (a ∷ b ∷ 0 ∷ [])) x
loses_third a b c x zero h asc (k, kl, e) other other' = absurd (omega arith)
loses_third a b c x (suc zero) h asc (zero, kl, e) other other' = absurd (other e)
loses_third a b c x (suc zero) h asc (suc k, kl, e) other other' = absurd (omega arith)
loses_third a b c x (suc (suc zero)) h asc (zero, kl, e) other other' = absurd (other e)
loses_third a b c x (suc (suc zero)) h asc (suc zero, kl, e) other other' = absurd (other' e)
loses_third a b c x (suc (suc zero)) h asc (suc (suc k), kl, e) other other' = absurd (omega arith)
loses_third a b c x (suc (suc (suc zero))) h asc (zero, kl, e) other other' = absurd (other e)
loses_third a b c x (suc (suc (suc zero))) h asc (suc zero, kl, e) other other' = absurd (other' e)
loses_third a b c x (suc (suc (suc zero))) h asc (suc (suc zero), kl, e) other other' = Loses-remove (a ∷ b ∷ c ∷ []) x 2 asc (omega arith) e
loses_third a b c x (suc (suc (suc zero))) h asc (suc (suc (suc k)), kl, e) other other' = absurd (omega arith)
loses_third a b c x (suc (suc (suc (suc n)))) h asc there other other' = absurd (omega arith)
