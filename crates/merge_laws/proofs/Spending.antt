-- What the steps of a plain resolution come to, as numbers. Of k values, some are left and some are done; a round takes
-- one that is left and tests it against those that are done. With n values left or done, and b done, twice the steps
-- so far are at most 2 * k * k - 2 * n * n + b * b, so at the end, where n is b, at most 2 * k * k.
use Rattle.std.proofs.Common.{◌≡◌, ℕ, ◌+◌, ◌*◌, ◌<◌, ◌≤◌, List, ◌∷◌, length, arith}
use Rattle.std.specs.List.Sorted.{IsPermutation}
use Rattle.std.proofs.lemmas.List.Sorted.{length_permutation}

-- a list without one of its members is shorter by one
pub one_less : {A : Type 0} (xs : List A) (x : A) (rest : List A) → IsPermutation xs (x ∷ rest) → length xs ≡ length rest + 1
one_less xs x rest p = let l = length_permutation xs (x ∷ rest) p in omega arith

-- a round in which two values become one that is left
pub measure_falls : (left left' left'' done done' : ℕ) → left ≡ left' + 1 → left'' ≡ left' + 1 → done ≡ done' + 1 → 2 * left'' + done' < 2 * left + done
measure_falls left left' left'' done done' l l' d = omega arith

-- Of k values `left` are left and `done` are done; the steps were `start` at first, and are `steps` now.
pub record IsSpent (start k steps left done : ℕ) : Type 0 where
  pub cost : 2 * steps + 2 * ((left + done) * (left + done)) ≤ 2 * start + 2 * (k * k) + done * done

pub spent-none : (start more apart : ℕ) → IsSpent start (apart + more) start more apart
spent-none start more apart = record { cost = let n = more + apart in let same : apart + more ≡ n = omega arith in rw same (omega arith) }

-- the value is kept: one less is left, and one more is done
pub spent-kept : (start k steps more left' done left done' : ℕ) → left ≡ left' + 1 → done' ≡ done + 1 → more ≤ steps + done → IsSpent start k steps left done → IsSpent start k more left' done'
spent-kept start k steps more left' done left done' l d paid s =
    let before : 2 * steps + 2 * (((left' + 1) + done) * ((left' + 1) + done)) ≤ 2 * start + 2 * (k * k) + done * done = rw l at s.cost in
    record { cost = rw d (omega (arith, before)) }

-- the value is merged with one that is done, and the merge is left: as many are left, and one less is done
pub spent-joined : (start k steps more left' done left done' left'' : ℕ) → left ≡ left' + 1 → done ≡ done' + 1 → left'' ≡ left' + 1 → more ≤ steps + done → IsSpent start k steps left done → IsSpent start k more left'' done'
spent-joined start k steps more left' done left done' left'' l d n paid s =
    let before : 2 * steps + 2 * (((left' + 1) + (done' + 1)) * ((left' + 1) + (done' + 1))) ≤ 2 * start + 2 * (k * k) + (done' + 1) * (done' + 1) = rw (l, d) at s.cost in
    let paid' : more ≤ steps + (done' + 1) = rw d at paid in
    record { cost = rw n (omega (arith, before, paid')) }

-- a test more, of a value that was left: at most k * k were made
pub spent-over : (start k steps more left' left done : ℕ) → left ≡ left' + 1 → more ≤ steps + done → IsSpent start k steps left done → more ≤ start + k * k
spent-over start k steps more left' left done l paid s =
    let before : 2 * steps + 2 * (((left' + 1) + done) * ((left' + 1) + done)) ≤ 2 * start + 2 * (k * k) + done * done = rw l at s.cost in
    omega (arith, before)
