-- Each list has a resolution: values are put among those that are apart, one after the other.
use Rattle.std.proofs.Common.{◌≡◌, ℕ, zero, suc, ◌≤◌, Bool, true, false, IsTrue, List, [], ◌∷◌, ◌++◌, length, refl, inl, inr, arith}
use Rattle.std.specs.Prelude.{◌⊎◌, Contains}
use Rattle.std.specs.List.Sorted.{IsPermutation}
use Rattle.std.proofs.lemmas.List.Elements.{Contains-append_left, Contains-append_right, Contains-append_cases}
use Rattle.std.proofs.lemmas.List.Sorted.{IsPermutation-refl, IsPermutation-trans, IsPermutation-cons, IsPermutation-middle}
use Rattle.merge_laws.specs.Resolution.{JoinLaws, MatchLaws, member, IsResolution, DoNotMatch}
use Rattle.merge_laws.proofs.Places.{Contains-head, Contains-tail, Contains-cases, All-from_members, AllPairs-none}
use Rattle.merge_laws.proofs.Spending.{one_less}
use Rattle.merge_laws.proofs.Resolutions.{IsDominated-refl, IsResolution-from_apart, IsResolution-through, IsResolution-push, apart-from_resolution}
use Rattle.merge_laws.proofs.Resolving.{IsResolving, resolving_kept, resolving_joined, resolving_inserted, IsResolution-from_resolving}

-- a value matches none of a list, or one of it
first-found : {A : Type 0} (match : A → A → Bool) (v : A) (done : List A) → ((x : A) → Contains done x → match v x ≡ false) ⊎ ((u : A) × (rest : List A) × IsPermutation done (u ∷ rest) × IsTrue (match v u))
first-found match v [] = inl (λ x (k, kl, e). absurd (omega arith))
first-found {A} match v (x ∷ xs) = elim (match v x) as (λ b. match v x ≡ b → ((y : A) → Contains (x ∷ xs) y → match v y ≡ false) ⊎ ((u : A) × (rest : List A) × IsPermutation (x ∷ xs) (u ∷ rest) × IsTrue (match v u))) [
  | true ↦ λ is. inr (x, xs, IsPermutation-refl (x ∷ xs), is)
  | false ↦ λ no. elim (first-found match v xs) [
    | inl none ↦ inl (λ y c. elim (Contains-cases x xs y c) [ inl same ↦ rw (← same) no | inr d ↦ none y d ])
    | inr (u, rest, p, is) ↦ inr (u, x ∷ rest, IsPermutation-trans (x ∷ xs) (x ∷ u ∷ rest) (u ∷ x ∷ rest) (IsPermutation-cons x xs (u ∷ rest) p) (IsPermutation-middle (x ∷ []) u rest), is)
  ]
] refl

module _ {A : Type 0} {match : A → A → Bool} {merge : A → A → A} (join : JoinLaws merge) (laws : MatchLaws match merge) where
  -- one value that is left, and matches none of those that are done
  kept : (list : List A) (v : A) (done : List A) → IsResolving match merge list (v ∷ []) done → ((x : A) → Contains done x → match v x ≡ false) → (resolution : List A) × IsResolution match merge list resolution
  kept list v done s none = (done ++ v ∷ [], IsResolution-from_resolving join laws list (done ++ v ∷ []) (resolving_kept join laws list [] done v s (All-from_members (λ x. match v x ≡ false) done none)))

  -- one value that is left, beside at most n that are done
  settled : (n : ℕ) (list : List A) (v : A) (done : List A) → length done ≤ n → IsResolving match merge list (v ∷ []) done → (resolution : List A) × IsResolution match merge list resolution
  settled zero list v done few s = elim (first-found match v done) [
    | inl none ↦ kept list v done s none
    | inr (u, rest, p, is) ↦ absurd (let l = one_less done u rest p in omega arith)
  ]
  settled (suc n) list v done few s = elim (first-found match v done) [
    | inl none ↦ kept list v done s none
    | inr (u, rest, p, is) ↦ settled n list (merge u v) rest (let l = one_less done u rest p in omega arith) (resolving_joined join laws list [] done v u rest s p is)
  ]

  -- each list has a resolution
  pub resolution-of : (list : List A) → (resolution : List A) × IsResolution match merge list resolution
  resolution-of [] = ([], IsResolution-from_apart join laws [] [] (λ e c. member c) (λ x (k, kl, e). absurd (omega arith)) (AllPairs-none (DoNotMatch match)))
  resolution-of (x ∷ xs) =
      let (found, r) = resolution-of xs in
      let (whole, w) = settled (length found) (found ++ x ∷ []) x found (omega arith) (resolving_inserted join laws found x (apart-from_resolution join laws xs found r)) in (
        whole,
        IsResolution-through join laws (x ∷ xs) (xs ++ x ∷ []) whole
            (λ y c. member (elim (Contains-append_cases xs (x ∷ []) y c) [
              | inl d ↦ Contains-tail x xs y d
              | inr d ↦ elim (Contains-cases x [] y d) [ inl same ↦ rw (← same) (Contains-head x xs) | inr (k, kl, e) ↦ absurd (omega arith) ]
            ]))
            (λ y c. (
              y,
              elim (Contains-cases x xs y c) [
                | inl same ↦ Contains-append_right xs (x ∷ []) y (rw (← same) (Contains-head x []))
                | inr d ↦ Contains-append_left xs (x ∷ []) y d
              ],
              IsDominated-refl join laws y,
            ))
            (IsResolution-push join laws xs found whole x r w),
      )
