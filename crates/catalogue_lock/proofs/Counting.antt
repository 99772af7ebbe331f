-- How many values of a list pass a test, where one of them is written or read.
use Rattle.std.proofs.Common.{◌≡◌, ◌≢◌, ℕ, zero, suc, ◌+◌, ◌<◌, ◌≤◌, Bool, true, false, cond, List, [], ◌∷◌, length, set, get_or, sym, refl, ap, ◌∙◌, subst, arith}
use Rattle.std.specs.List.{count_by}
use mathlib.Core.Option.{some, some-injective, some-ne-none}
use lib.ListN.{get_elem?}
use Rattle.std.proofs.lemmas.List.Sums.{sum_by-set, sum_by-cons}

-- a test that implies another counts no more
one_le : (b c : Bool) → (b ≡ true → c ≡ true) → cond b 1 0 ≤ cond c 1 0
one_le false c f = omega arith
one_le true c f = rw (f refl) (omega arith)

module _ {A : Type 0} where
  abbrev pub one : (A → Bool) → A → ℕ
  one p a = cond (p a) 1 0

  pub at_within : (l : List A) (i : ℕ) (a : A) → get_elem? l i ≡ some a → i < length l
  at_within [] i a e = absurd (some-ne-none a (sym e))
  at_within (x ∷ xs) zero a e = omega arith
  at_within (x ∷ xs) (suc i) a e = let h = at_within xs i a e in omega arith

  pub at_reads : (l : List A) (i : ℕ) (a d : A) → get_elem? l i ≡ some a → get_or l i d ≡ a
  at_reads [] i a d e = absurd (some-ne-none a (sym e))
  at_reads (x ∷ xs) zero a d e = some-injective x a e
  at_reads (x ∷ xs) (suc i) a d e = at_reads xs i a d e

  pub count_set : (p : A → Bool) (l : List A) (i : ℕ) (a b : A) → get_elem? l i ≡ some a → count_by p (set l i b) + one p a ≡ count_by p l + one p b
  count_set p l i a b e = subst (λ (z : A). count_by p (set l i b) + one p z ≡ count_by p l + one p b) (at_reads l i a a e) (sum_by-set (one p) l i b a (at_within l i a e))

  pub count_one : (p : A → Bool) (l : List A) (i : ℕ) (a : A) → get_elem? l i ≡ some a → p a ≡ true → 1 ≤ count_by p l
  count_one p [] i a e t = absurd (some-ne-none a (sym e))
  count_one p (x ∷ xs) zero a e t = let o : one p x ≡ 1 = ap (λ b. cond b 1 0) (ap p (some-injective x a e) ∙ t) in omega (arith, sum_by-cons (one p) x xs)
  count_one p (x ∷ xs) (suc i) a e t = let h = count_one p xs i a e t in omega (arith, sum_by-cons (one p) x xs)

  pub count_two : (p : A → Bool) (l : List A) (i j : ℕ) (a b : A) → get_elem? l i ≡ some a → get_elem? l j ≡ some b → p a ≡ true → p b ≡ true → i ≢ j → 2 ≤ count_by p l
  count_two p [] i j a b e f s t ne = absurd (some-ne-none a (sym e))
  count_two p (x ∷ xs) zero zero a b e f s t ne = absurd (ne refl)
  count_two p (x ∷ xs) zero (suc j) a b e f s t ne =
      let o : one p x ≡ 1 = ap (λ b. cond b 1 0) (ap p (some-injective x a e) ∙ s) in omega (arith, sum_by-cons (one p) x xs, count_one p xs j b f t)
  count_two p (x ∷ xs) (suc i) zero a b e f s t ne =
      let o : one p x ≡ 1 = ap (λ b. cond b 1 0) (ap p (some-injective x b f) ∙ t) in omega (arith, sum_by-cons (one p) x xs, count_one p xs i a e s)
  count_two p (x ∷ xs) (suc i) (suc j) a b e f s t ne = omega (arith, sum_by-cons (one p) x xs, count_two p xs i j a b e f s t (λ q. ne (ap suc q)))

  pub count_le : (p q : A → Bool) (l : List A) → ((i : ℕ) (a : A) → get_elem? l i ≡ some a → p a ≡ true → q a ≡ true) → count_by p l ≤ count_by q l
  count_le p q [] f = omega arith
  count_le p q (x ∷ xs) f = omega (arith, sum_by-cons (one p) x xs, sum_by-cons (one q) x xs, one_le (p x) (q x) (f 0 x refl), count_le p q xs (λ i a. f (suc i) a))

  find_from : (p : A → Bool) (x : A) (xs : List A) (b : Bool) → p x ≡ b → (0 < count_by p xs → (k : ℕ) × (a : A) × (get_elem? xs k ≡ some a) × (p a ≡ true)) → 0 < count_by p (x ∷ xs)
      → (k : ℕ) × (a : A) × (get_elem? (x ∷ xs) k ≡ some a) × (p a ≡ true)
  find_from p x xs true is rest more = (0, x, refl, is)
  find_from p x xs false is rest more = let o : one p x ≡ 0 = ap (λ b. cond b 1 0) is in let r = rest (omega (arith, sum_by-cons (one p) x xs)) in (suc r.0, r.1, r.2, r.3)

  pub count_find : (p : A → Bool) (l : List A) → 0 < count_by p l → (k : ℕ) × (a : A) × (get_elem? l k ≡ some a) × (p a ≡ true)
  count_find p [] more = absurd (omega arith)
  count_find p (x ∷ xs) more = find_from p x xs (p x) refl (count_find p xs) more
