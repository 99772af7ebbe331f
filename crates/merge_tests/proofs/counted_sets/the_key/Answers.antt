use Rattle.std.proofs.Common.{◌≡◌, ◌≢◌, ℕ, [], ◌∷◌, sym, inl, inr, arith}
use Rattle.std.specs.Prelude.{Contains}
use Rattle.merge_laws.proofs.Places.{AllPairs-one, Contains-cases}
use Rattle.merge_tests.specs.CountedSets.{AreTheKey}
use Rattle.merge_tests.proofs.counted_sets.the_key.Goals as goal

-- the only member of a list of one
only : (k : ℕ) → Contains (0 ∷ []) k → k ≡ 0
only k c = elim (Contains-cases 0 [] k c) [ inl same ↦ sym same | inr (j, jl, e) ↦ absurd (omega arith) ]

alone : AreTheKey (0 ∷ [])
alone = (λ k. (only k, λ e. (0, omega arith, sym e)), AllPairs-one (λ (j : ℕ) (k : ℕ). j ≢ k) 0)

pub returns : goal.returns
returns c = rw (c.in_ok-push.ensures.items, c.new-keys.ensures.items) alone
