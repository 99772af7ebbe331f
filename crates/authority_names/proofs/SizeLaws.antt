-- A list without repeats is no longer than one that has all its members.
use Rattle.std.proofs.Common.{◌≡◌, ◌≢◌, ℕ, zero, suc, ◌≤◌, false, List, [], ◌∷◌, length, nat_eq, refl, sym, subst, ◌∙◌, true≢false, inl, inr, IsPermutation, Contains, arith}
use Rattle.std.specs.Prelude.{◌⊎◌, Option, remove}
use Rattle.std.specs.List.{IsDistinct}
use Rattle.std.specs.Cmp.Lexicographic.{pointwise}
use Rattle.std.proofs.lemmas.List.Elements.{All-from_recursion, All-contains}
use Rattle.std.proofs.lemmas.List.Sorted.{IsPermutation-remove, Contains-permutation, length_permutation}
use Rattle.std.proofs.lemmas.Map.Keys.{IsDistinct-head, IsDistinct-tail}
use Rattle.authority_names.specs.Names.{is_same, IsSize}
use Rattle.authority_names.proofs.NameLaws.{itself}

-- the member at the beginning, or one after it
front_or_later : (x : List ℕ) (xs : List (List ℕ)) (y : List ℕ) → Contains (x ∷ xs) y → (x ≡ y) ⊎ Contains xs y
front_or_later x xs y (zero, kl, e) = inl e
front_or_later x xs y (suc k, kl, e) = inr (k, omega arith, e)

later : (x : List ℕ) (xs : List (List ℕ)) (y : List ℕ) → Contains xs y → Contains (x ∷ xs) y
later x xs y (k, kl, e) = (suc k, omega arith, e)

other : (x : List ℕ) (xs : List (List ℕ)) → IsDistinct (pointwise nat_eq) (x ∷ xs) → (y : List ℕ) → Contains xs y → x ≢ y
other x xs d y c e =
    let apart : is_same x y ≡ false = All-contains (λ z. is_same x z ≡ false) xs y
    (All-from_recursion (λ z. is_same x z ≡ false) xs (IsDistinct-head (pointwise nat_eq) x xs d)) c in
    true≢false (sym (itself x) ∙ subst (λ z. is_same x z ≡ false) (sym e) apart)

pub no_longer : (xs ys : List (List ℕ)) → IsDistinct (pointwise nat_eq) xs → ((x : List ℕ) → Contains xs x → Contains ys x) → length xs ≤ length ys
no_longer [] ys d sub = omega arith
no_longer (x ∷ xs) ys d sub =
    let (k, kl, e) = sub x (0, omega arith, refl) in
    let moved : IsPermutation ys (x ∷ remove ys k) = IsPermutation-remove ys k x kl (sym e) in
    let rest = no_longer xs (remove ys k) (IsDistinct-tail (pointwise nat_eq) x xs d)
    (λ y c. elim (front_or_later x (remove ys k) y (Contains-permutation ys (x ∷ remove ys k) y moved (sub y (later x xs y c)))) [
      | inl same ↦ absurd (other x xs d y c same)
      | inr there ↦ there
    ]) in
    let size = length_permutation ys (x ∷ remove ys k) moved in
    omega arith

pub one_size : (table : List ℕ → Option (List ℕ)) (m n : ℕ) → IsSize table m → IsSize table n → m ≡ n
one_size table m n p q =
    let there = no_longer p.headings q.headings p.distinct (λ x c. (q.exact x).1 ((p.exact x).0 c)) in
    let back = no_longer q.headings p.headings q.distinct (λ x c. (p.exact x).1 ((q.exact x).0 c)) in
    let a = p.counted in
    let b = q.counted in
    omega arith
