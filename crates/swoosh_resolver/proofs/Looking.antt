-- A look for the open blocks that a value matches, among numbers.
use Rattle.std.proofs.Common.{◌≡◌, ℕ, ◌+◌, ◌<◌, ◌≤◌, Bool, true, false, cond, List, Option, None, Some, length, get_or, take, refl, sym, ◌∙◌, ap, subst, is_some, if◌then◌else◌, arith}
use Rattle.std.specs.Prelude.{All, Contains, count_by}
use Rattle.std.specs.List.{AllWithin}
use Rattle.std.proofs.lemmas.List.{get_or_default}
use Rattle.std.proofs.lemmas.List.Elements.{AllWithin-more}
use Rattle.std.proofs.lemmas.List.Sums.{sum_by-take-le}
use Rattle.merge_laws.proofs.Places.{All-from_members}
use Rattle.swoosh_resolver.specs.Tables.{block_at, blocks_in}
use Rattle.swoosh_resolver.specs.Changes.{without}
use Rattle.swoosh_resolver.specs.Looks.{IsLook}
use Rattle.swoosh_resolver.specs.Insertions.{passes}
use Rattle.swoosh_resolver.proofs.Places.{block-from_open, number-from_block, passing-le, counted-more}

module _ {X : Type 0} {is_seen : X → Type 0} (blocks : List (Option X)) (closed : List ℕ) (numbers : List ℕ) (look : IsLook is_seen blocks numbers) where
  abbrev left : List (Option X)
  left = without blocks closed

  module _ (near : X → Bool) (found : (e : X) (n : ℕ) → block_at blocks n ≡ Some e → is_seen e → near e ≡ true) where
    cost-at : (n : ℕ) → Contains numbers n → cond {A = ℕ} (is_some (block_at left n)) 1 0 ≤ cond (passes near (block_at left n)) 1 0
    cost-at n c = go (block_at left n) (λ e at. found-at e at)
      where
        -- the open block under one of the numbers is near
        found-at : (e : X) → block_at left n ≡ Some e → near e ≡ true
        found-at e at =
            let (f, there, seen) = (look.members n).0 c in
            let here = block-from_open closed blocks n e at in
            let same : f ≡ e = cc in
            found e n here (subst is_seen same seen)

        go : (o : Option X) → ((e : X) → o ≡ Some e → near e ≡ true) → cond {A = ℕ} (is_some o) 1 0 ≤ cond (passes near o) 1 0
        go None h = omega arith
        go (Some e) h = rw (h e refl) (omega arith)

    -- what was paid up to a place, and then at this place
    pub paid-next : (start now then' i : ℕ) → i < length numbers
        → now ≤ start + count_by (λ n. passes near (block_at left n)) (take i numbers)
        → then' ≤ now + (if is_some (block_at left (get_or numbers i 0)) then 1 else 0)
        → then' ≤ start + count_by (λ n. passes near (block_at left n)) (take (i + 1) numbers)
    paid-next start now then' i il before one =
        let n = get_or numbers i 0 in
        let e : n ≡ get_or numbers i n = get_or_default numbers i 0 n il in
        let more = counted-more (λ n. passes near (block_at left n)) numbers i n il e in
        let most = cost-at n (i, il, sym e) in
        rw more (omega arith)

    -- in all no more is paid than there are open blocks that are near
    pub paid-all : (start now i : ℕ)
        → now ≤ start + count_by (λ n. passes near (block_at left n)) (take i numbers)
        → now ≤ start + count_by near (blocks_in left)
    paid-all start now i paid =
        let some = sum_by-take-le (λ n. cond (passes near (block_at left n)) 1 0) numbers i in
        let all = passing-le near numbers left look.ascending in
        omega arith

  module _ (matches : X → Bool) where
    -- where no block under the numbers matches, no open block does that is looked at
    pub none-matches : (i : ℕ) → length numbers ≤ i → AllWithin (λ n. passes matches (block_at left n) ≡ false) numbers 0 i → All (λ e. is_seen e → matches e ≡ false) (blocks_in left)
    none-matches i past within = All-from_members (λ e. is_seen e → matches e ≡ false) (blocks_in left) (λ e c seen. one e c seen)
      where
        none : (n : ℕ) → Contains numbers n → passes matches (block_at left n) ≡ false
        none n (j, jl, e) = subst (λ m. passes matches (block_at left m) ≡ false) e (within j n (omega arith) (omega arith))

        one : (e : X) → Contains (blocks_in left) e → is_seen e → matches e ≡ false
        one e c seen =
            let (n, at) = number-from_block left e c in
            let stands : Contains numbers n = (look.members n).1 (e, block-from_open closed blocks n e at, seen) in
            sym (ap (passes matches) at) ∙ none n stands

    -- one block more does not match
    pub none-next : (i : ℕ) → i < length numbers → AllWithin (λ n. passes matches (block_at left n) ≡ false) numbers 0 i
        → passes matches (block_at left (get_or numbers i 0)) ≡ false
        → AllWithin (λ n. passes matches (block_at left n) ≡ false) numbers 0 (i + 1)
    none-next i il within here =
        AllWithin-more (λ n. passes matches (block_at left n) ≡ false) numbers 0 i within
        (λ d. subst (λ m. passes matches (block_at left m) ≡ false) (get_or_default numbers i 0 d il) here)

-- a test that is not passed fails
pub failed : (b : Bool) → (b ≡ true → ⊥) → b ≡ false
failed true h = absurd (h refl)
failed false h = refl
