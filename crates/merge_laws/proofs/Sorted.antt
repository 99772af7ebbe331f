-- A list that strictly ascends is told by its members: so a resolution that stands in such an order is one list.
use Rattle.std.proofs.Common.{◌≡◌, List, [], ◌∷◌, refl, sym, ◌∙◌, ap, subst, inl, inr, arith}
use Rattle.std.specs.Prelude.{Contains}
use Rattle.std.specs.declared.cmp.Ordering.{Ordering}
use Rattle.std.specs.declared.cmp.Ordering.TheVariants.{Less}
use Rattle.std.specs.List.Sorted.{IsPermutation, IsStrictlySortedBy}
use Rattle.std.proofs.lemmas.List.Elements.{All-contains, All-from_recursion}
use Rattle.std.proofs.lemmas.List.Sorted.{IsPermutation-sym, Contains-permutation}
use Rattle.merge_laws.proofs.Places.{Contains-head, Contains-tail, Contains-cases}

module _ {A : Type 0} (cmp : A → A → Ordering) (one_way : (x y : A) → cmp x y ≡ Less → cmp y x ≡ Less → ⊥) where
  -- the first member is below the others
  below-first : (x : A) (xs : List A) → IsStrictlySortedBy cmp (x ∷ xs) → (y : A) → Contains xs y → cmp x y ≡ Less
  unfolding IsStrictlySortedBy
  below-first x xs s y c = All-contains (λ y. cmp x y ≡ Less) xs y (All-from_recursion (λ y. cmp x y ≡ Less) xs s.0) c

  -- the members after the first are those of the other list's rest
  member-rest : (x : A) (xs ys : List A) → IsStrictlySortedBy cmp (x ∷ xs) → ((z : A) → Contains (x ∷ xs) z → Contains (x ∷ ys) z) → (z : A) → Contains xs z → Contains ys z
  member-rest x xs ys s there z c = elim (Contains-cases x ys z (there z (Contains-tail x xs z c))) [
    | inl same ↦ absurd (let less : cmp x z ≡ Less = below-first x xs s z c in
        let itself : cmp z z ≡ Less = subst (λ w. cmp w z ≡ Less) same less in one_way z z itself itself)
    | inr d ↦ d
  ]

  pub same-from_members : (xs ys : List A) → IsStrictlySortedBy cmp xs → IsStrictlySortedBy cmp ys → ((z : A) → Contains xs z → Contains ys z) → ((z : A) → Contains ys z → Contains xs z) → xs ≡ ys
  unfolding IsStrictlySortedBy
  same-from_members [] [] s t there back = refl
  same-from_members [] (y ∷ ys) s t there back = let (k, kl, e) = back y (Contains-head y ys) in absurd (omega arith)
  same-from_members (x ∷ xs) [] s t there back = let (k, kl, e) = there x (Contains-head x xs) in absurd (omega arith)
  same-from_members (x ∷ xs) (y ∷ ys) s t there back =
      let one : x ≡ y = elim (Contains-cases y ys x (there x (Contains-head x xs))) as (λ _. x ≡ y) [
        | inl same ↦ sym same
        | inr later ↦ elim (Contains-cases x xs y (back y (Contains-head y ys))) as (λ _. x ≡ y) [
          | inl same ↦ same
          | inr also ↦ absurd (one_way x y (below-first x xs s y also) (below-first y ys t x later))
        ]
      ] in
      let t' : IsStrictlySortedBy cmp (x ∷ ys) = subst (λ w. IsStrictlySortedBy cmp (w ∷ ys)) (sym one) t in
      let there' : (z : A) → Contains (x ∷ xs) z → Contains (x ∷ ys) z = subst (λ w. (z : A) → Contains (x ∷ xs) z → Contains (w ∷ ys) z) (sym one) there in
      let back' : (z : A) → Contains (x ∷ ys) z → Contains (x ∷ xs) z = subst (λ w. (z : A) → Contains (w ∷ ys) z → Contains (x ∷ xs) z) (sym one) back in
      ap (λ zs. x ∷ zs) (same-from_members xs ys s.1 t'.1 (member-rest x xs ys s there') (member-rest x ys xs t' back')) ∙ ap (λ w. w ∷ ys) one

  -- two orders of the same members, both of which strictly ascend, are one list
  pub same-from_permutation : (xs ys : List A) → IsPermutation xs ys → IsStrictlySortedBy cmp xs → IsStrictlySortedBy cmp ys → xs ≡ ys
  same-from_permutation xs ys p s t =
      same-from_members xs ys s t (λ z c. Contains-permutation xs ys z p c) (λ z c. Contains-permutation ys xs z (IsPermutation-sym xs ys p) c)
