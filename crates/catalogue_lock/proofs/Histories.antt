-- Histories that grow, and what one pass has of them.
use Rattle.std.proofs.Common.{◌≡◌, ◌≢◌, ℕ, suc, ◌<◌, ◌≤◌, Bool, true, false, cond, eqb, eq-eqb, ne_eqb, List, [], ◌∷◌, ◌++◌, map, length, sym, refl, ap, ◌∙◌, arith, append_assoc, append-nil}
use Rattle.std.specs.List.{filter, All}
use Rattle.std.proofs.lemmas.List.{length-append}
use Rattle.catalogue_lock.specs.History.{changes_of, IsPrefix}

module _ {C : Type 0} where
  pub prefix_all : (h : List (ℕ × C)) → IsPrefix h h
  prefix_all h = ([], append-nil h)

  pub prefix_more : (a b c : List (ℕ × C)) → IsPrefix a b → IsPrefix b c → IsPrefix a c
  prefix_more a b c p q = (p.0 ++ q.0, sym (append_assoc a p.0 q.0) ∙ ap (λ (l : List (ℕ × C)). l ++ q.0) p.1 ∙ q.1)

  pub prefix_length : (a b : List (ℕ × C)) → IsPrefix a b → length a ≤ length b
  prefix_length a b p = let e : length (a ++ p.0) ≡ length b = ap length p.1 in omega (arith, length-append a p.0)

  changes_push : (n : ℕ) (h : List (ℕ × C)) (e : ℕ × C) (b : Bool) → eqb e.0 n ≡ b → changes_of n (h ++ e ∷ []) ≡ changes_of n h ++ cond b (e.1 ∷ []) []
  changes_push n [] e true is = rw is refl
  changes_push n [] e false is = rw is refl
  changes_push n (x ∷ xs) e b is = go (eqb x.0 n) (changes_push n xs e b is)
    where
      go : (t : Bool) → changes_of n (xs ++ e ∷ []) ≡ changes_of n xs ++ cond b (e.1 ∷ []) []
          → map (λ (z : ℕ × C). z.1) (cond t (x ∷ filter (λ (z : ℕ × C). eqb z.0 n) (xs ++ e ∷ [])) (filter (λ (z : ℕ × C). eqb z.0 n) (xs ++ e ∷ [])))
          ≡ map (λ (z : ℕ × C). z.1) (cond t (x ∷ filter (λ (z : ℕ × C). eqb z.0 n) xs) (filter (λ (z : ℕ × C). eqb z.0 n) xs)) ++ cond b (e.1 ∷ []) []
      go true h = ap (λ (l : List C). x.1 ∷ l) h
      go false h = h

  -- the pass's own entry
  pub changes_own : (n : ℕ) (h : List (ℕ × C)) (c : C) → changes_of n (h ++ (n, c) ∷ []) ≡ changes_of n h ++ c ∷ []
  changes_own n h c = changes_push n h (n, c) true (eq-eqb n n refl)

  -- another's
  pub changes_other : (n m : ℕ) (h : List (ℕ × C)) (c : C) → m ≢ n → changes_of n (h ++ (m, c) ∷ []) ≡ changes_of n h
  changes_other n m h c ne = changes_push n h (m, c) false (ne_eqb m n ne) ∙ append-nil (changes_of n h)

  pub no_changes : (n : ℕ) (h : List (ℕ × C)) → All (λ (e : ℕ × C). e.0 < n) h → changes_of n h ≡ []
  no_changes n [] below = refl
  no_changes n (x ∷ xs) below =
      let low : x.0 < n = below 0 x (omega arith) in
      let is : eqb x.0 n ≡ false = ne_eqb x.0 n (λ e. omega arith) in
      rw is (no_changes n xs (λ k d h. below (suc k) d (omega arith)))
