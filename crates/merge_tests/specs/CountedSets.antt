-- Sets that all have one key, 0, so that each two of them share it, whether they meet or not.
use Rattle.std.specs.Prelude.{◌≡◌, ◌≢◌, ◌↔◌, ℕ, Bool, true, refl, List, Contains, AllPairs}
use Rattle.std.proofs.Common.{inl, inr}
use Rattle.merge_laws.specs.Candidates.{SeekingLaws, FindingLaws}
use Rattle.merge_laws.specs.Resolution.{KeyLaws}
use Rattle.merge_tests.specs.SmallSets.{union, meet}

-- The key is the one that each set has.
abbrev pub IsTheKey : ℕ → ℕ → Type 0
IsTheKey n k = k ≡ 0

-- The list has the one key, once.
abbrev pub AreTheKey : List ℕ → Type 0
AreTheKey keys = ((k : ℕ) → Contains keys k ↔ (k ≡ 0)) × AllPairs (λ j k. j ≢ k) keys

-- Any two sets share the key.
abbrev pub always : ℕ → ℕ → Bool
always m n = true

-- each set has the key, and so have unions
pub one_key_laws : KeyLaws meet union IsTheKey always
one_key_laws = record {
  matching = λ m n h. (0, refl, refl);
  merged = λ m n k. (inl, λ h. elim h [ inl e ↦ e | inr e ↦ e ]);
  shared = λ m n. (λ h. (0, refl, refl), λ h. refl);
}

-- a set is found by the key, as all are
pub one_key_found : SeekingLaws meet IsTheKey IsTheKey always
one_key_found = record { matching = λ m n h. (0, refl, refl); near = λ m n k p q. refl }

-- and each finds all
pub one_key_finds : FindingLaws union IsTheKey IsTheKey always
one_key_finds = record {
  found = λ m n. (λ h. (0, refl, refl), λ found. refl);
  grows = λ w m n h. refl;
}
