-- What a change keeps of the blocks that are not merged.
use Rattle.std.proofs.Common.{◌≡◌, ℕ, Bool, List, [], ◌∷◌, ◌++◌, Option, Some, subst, inl, inr}
use Rattle.std.specs.Prelude.{◌⊎◌, Contains}
use Rattle.std.specs.List.Sorted.{IsPermutation}
use Rattle.std.proofs.lemmas.List.Elements.{Contains-append_left, Contains-push_cases}
use Rattle.std.proofs.lemmas.List.Sorted.{IsPermutation-sym, Contains-permutation}
use Rattle.merge_laws.specs.Resolution.{JoinLaws, MatchLaws, IsDominated}
use Rattle.merge_laws.proofs.Places.{Contains-tail, Contains-cases}
use Rattle.merge_laws.proofs.Resolutions.{IsDominated-trans}
use Rattle.swoosh_resolver.specs.Tables.{Entry, block_at}
use Rattle.swoosh_resolver.specs.Insertions.{KeepsUnmerged}

module _ {R K : Type 0} {match : R → R → Bool} {merge : R → R → R} (blocks : List (Option (Entry R K))) (closed : List ℕ) (opened : List (Entry R K)) where
  -- nothing is merged
  pub unmerged_none : (value : R) → KeepsUnmerged match merge blocks closed opened closed opened value
  unmerged_none value = record {
    closes = λ n c. inl c;
    stays_closed = λ n c. c;
    takes_back = λ e c. inl c;
    stays_opened = λ e c. c;
  }

  -- a block is merged
  pub unmerged_kept : (n : ℕ) (e : Entry R K) (merged : R) → block_at blocks n ≡ Some e → IsDominated match merge e.value merged → KeepsUnmerged match merge blocks closed opened (closed ++ n ∷ []) opened merged
  unmerged_kept n e merged at below = record {
    closes = λ m c. elim (Contains-push_cases closed n m c) as (λ _. Contains closed m ⊎ ((f : Entry R K) × (block_at blocks m ≡ Some f) × IsDominated match merge f.value merged)) [
      | inl old ↦ inl old
      | inr same ↦ inr (e, subst (λ z. block_at blocks z ≡ Some e) same at, below)
    ];
    stays_closed = λ m c. Contains-append_left closed (n ∷ []) m c;
    takes_back = λ f c. inl c;
    stays_opened = λ f c. c;
  }

  -- an opened value is merged
  pub unmerged_fresh : (rest : List (Entry R K)) (e : Entry R K) (merged : R) → IsPermutation opened (e ∷ rest) → IsDominated match merge e.value merged → KeepsUnmerged match merge blocks closed opened closed rest merged
  unmerged_fresh rest e merged p below = record {
    closes = λ n c. inl c;
    stays_closed = λ n c. c;
    takes_back = λ f c. elim (Contains-cases e rest f (Contains-permutation opened (e ∷ rest) f p c)) as (λ _. Contains rest f ⊎ IsDominated match merge f.value merged) [
      | inl same ↦ inr (subst (λ (z : Entry R K). IsDominated match merge z.value merged) same below)
      | inr left ↦ inl left
    ];
    stays_opened = λ f c. Contains-permutation (e ∷ rest) opened f (IsPermutation-sym opened (e ∷ rest) p) (Contains-tail e rest f c);
  }

  -- one merge after another
  pub unmerged-then : (join : JoinLaws merge) (laws : MatchLaws match merge) (closed' : List ℕ) (opened' : List (Entry R K)) (value : R) (closed'' : List ℕ) (opened'' : List (Entry R K)) (merged : R)
      → KeepsUnmerged match merge blocks closed opened closed' opened' value → IsDominated match merge value merged → KeepsUnmerged match merge blocks closed' opened' closed'' opened'' merged
      → KeepsUnmerged match merge blocks closed opened closed'' opened'' merged
  unmerged-then join laws closed' opened' value closed'' opened'' merged first up second = record {
    closes = λ n c. elim (second.closes n c) as (λ _. Contains closed n ⊎ ((f : Entry R K) × (block_at blocks n ≡ Some f) × IsDominated match merge f.value merged)) [
      | inl old ↦ elim (first.closes n old) as (λ _. Contains closed n ⊎ ((f : Entry R K) × (block_at blocks n ≡ Some f) × IsDominated match merge f.value merged)) [
        | inl older ↦ inl older
        | inr (e, at, below) ↦ inr (e, at, IsDominated-trans join laws e.value value merged below up)
      ]
      | inr (e, at, below) ↦ inr (e, at, below)
    ];
    stays_closed = λ n c. second.stays_closed n (first.stays_closed n c);
    takes_back = λ e c. elim (first.takes_back e c) as (λ _. Contains opened'' e ⊎ IsDominated match merge e.value merged) [
      | inl still ↦ second.takes_back e still
      | inr below ↦ inr (IsDominated-trans join laws e.value value merged below up)
    ];
    stays_opened = λ e c. first.stays_opened e (second.stays_opened e c);
  }
