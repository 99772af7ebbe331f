-- Keys in lists, and the numbers under them.
use Rattle.std.proofs.Common.{◌≡◌, ℕ, Bool, true, false, List, [], ◌∷◌, ◌++◌, refl, sym, ◌∙◌, subst, true≢false, inl, inr, arith}
use Rattle.std.specs.Prelude.{◌↔◌, ◌⊎◌, Contains}
use Rattle.std.specs.List.{list_any}
use Rattle.std.proofs.lemmas.List.Elements.{Contains-append_left, Contains-append_right, Contains-append_cases, Contains-push, Contains-push_cases}
use Rattle.std.specs.Cmp.{IsEquivalence}
use Rattle.merge_laws.proofs.Places.{Contains-head, Contains-tail, Contains-cases}

module _ {K : Type 0} (eq : K → K → Bool) where
  -- a key that the search finds is in the list
  pub there-from_found : ((j k : K) → eq j k ≡ true → j ≡ k) → (keys : List K) (k : K) → list_any (λ y. eq y k) keys ≡ true → Contains keys k
  there-from_found exact [] k h = absurd (true≢false (sym h))
  there-from_found exact (y ∷ ys) k h =
      elim (eq y k) as (λ b. eq y k ≡ b → Contains (y ∷ ys) k) [
        | true ↦ λ e. subst (Contains (y ∷ ys)) (exact y k e) (Contains-head y ys)
        | false ↦ λ e. Contains-tail y ys k (there-from_found exact ys k (rw e at h))
      ] refl

  -- and one that it does not find is not
  pub absent-from_missed : IsEquivalence eq → (keys : List K) (k : K) → list_any (λ y. eq y k) keys ≡ false → Contains keys k → ⊥
  absent-from_missed laws [] k h (i, il, e) = absurd (omega arith)
  absent-from_missed laws (y ∷ ys) k h c =
      elim (eq y k) as (λ b. eq y k ≡ b → ⊥) [
        | true ↦ λ e. true≢false (rw e at h)
        | false ↦ λ e. elim (Contains-cases y ys k c) as (λ _. ⊥) [
          | inl same ↦ true≢false (sym (subst (λ z. eq y z ≡ true) same (laws.refl y)) ∙ e)
          | inr c' ↦ absent-from_missed laws ys k (rw e at h) c'
        ]
      ] refl

-- the numbers are the given ones and those under the keys
pub record AreGathered {K : Type 0} (under : K → List ℕ) (given : List ℕ) (keys : List K) (numbers : List ℕ) : Type 0 where
  pub members : (n : ℕ) → Contains numbers n ↔ (Contains given n ⊎ ((k : K) × Contains keys k × Contains (under k) n))

module _ {K : Type 0} (under : K → List ℕ) (given : List ℕ) where
  pub gathered_none : AreGathered under given [] given
  gathered_none = record {
    members = λ n. (
      λ c. inl c,
      λ w. elim w as (λ _. Contains given n) [ inl c ↦ c | inr (k, (i, il, e), c) ↦ absurd (omega arith) ],
    );
  }

  pub gathered_more : (keys : List K) (numbers : List ℕ) (k : K) → AreGathered under given keys numbers → AreGathered under given (keys ++ k ∷ []) (numbers ++ under k)
  gathered_more keys numbers k h = record {
    members = λ n. (
      λ c. elim (Contains-append_cases numbers (under k) n c) as (λ _. Contains given n ⊎ ((j : K) × Contains (keys ++ k ∷ []) j × Contains (under j) n)) [
        | inl old ↦ elim ((h.members n).0 old) as (λ _. Contains given n ⊎ ((j : K) × Contains (keys ++ k ∷ []) j × Contains (under j) n)) [
          | inl first ↦ inl first
          | inr (j, cj, cn) ↦ inr (j, Contains-append_left keys (k ∷ []) j cj, cn)
        ]
        | inr new ↦ inr (k, Contains-push keys k, new)
      ],
      λ w. elim w as (λ _. Contains (numbers ++ under k) n) [
        | inl first ↦ Contains-append_left numbers (under k) n ((h.members n).1 (inl first))
        | inr (j, cj, cn) ↦ elim (Contains-push_cases keys k j cj) as (λ _. Contains (numbers ++ under k) n) [
          | inl old ↦ Contains-append_left numbers (under k) n ((h.members n).1 (inr (j, old, cn)))
          | inr same ↦ Contains-append_right numbers (under k) n (subst (λ q. Contains (under q) n) (sym same) cn)
        ]
      ],
    );
  }

  -- in another order they are the same numbers
  pub gathered_same : (keys : List K) (numbers sorted : List ℕ) → AreGathered under given keys numbers → ((n : ℕ) → Contains sorted n ↔ Contains numbers n) → AreGathered under given keys sorted
  gathered_same keys numbers sorted h same = record {
    members = λ n. (λ c. (h.members n).0 ((same n).0 c), λ c. (same n).1 ((h.members n).1 c));
  }
