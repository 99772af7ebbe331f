-- Sets of numbers that are not empty, which match where they meet and merge by union: the values that the tests resolve.
-- A set is seen as a number n, where the binary digits of n + 1 say which numbers are in it. So each n is a set, and no
-- set is empty.
use Rattle.std.specs.Prelude.{◌≡◌, ◌≢◌, List, Contains, AllPairs, ℕ, zero, suc, ◌+◌, ◌-◌, ◌/◌, ◌%◌, ◌<◌, ◌≤◌, ◌↔◌, ◌⊎◌, Bool, true, IsTrue, nat_eq, nat_lt, bit_and, bit_or, refl, max, min}
use Rattle.std.specs.Int.{bit_at}
use Rattle.std.proofs.Common.{sym, ◌∙◌, ap, inl, inr, arith}
use Rattle.std.proofs.Math.Decide.{dec_lt}
use Rattle.std.proofs.lemmas.Nat.Bits.{bit_at_and, bit_at_or, bit_at-lt, bit_at-zero, bit_at-suc, bit_at_lowest, same_from_bits}
use Rattle.std.proofs.lemmas.Bool.Decides.{nat_tests}
use Rattle.merge_laws.specs.Candidates.{SeekingLaws, FindingLaws}
use Rattle.merge_laws.specs.Resolution.{JoinLaws, MatchLaws, KeyLaws}

-- The number k is in the set.
abbrev pub HasNumber : ℕ → ℕ → Type 0
HasNumber n k = bit_at (n + 1) k ≡ 1

-- The list has the numbers in the set, each once.
abbrev pub AreNumbers : ℕ → List ℕ → Type 0
AreNumbers n keys = ((k : ℕ) → Contains keys k ↔ HasNumber n k) × AllPairs (λ j k. j ≢ k) keys

-- the union of two sets, each not empty, as numbers: the number n stands for the binary digits of n + 1
abbrev pub union : ℕ → ℕ → ℕ
union m n = bit_or (m + 1) (n + 1) - 1

-- Some number is in both.
abbrev pub meet : ℕ → ℕ → Bool
meet m n = nat_lt 0 (bit_and (m + 1) (n + 1))

-- a number that is not 0 has a binary digit 1
some_digit : (fuel n : ℕ) → n ≤ fuel → 0 < n → (k : ℕ) × (bit_at n k ≡ 1)
some_digit zero n few some = absurd (omega arith)
some_digit (suc fuel) n few some =
    elim (dec_lt 0 (n % 2)) [
      | yes odd ↦ (0, rw (bit_at_lowest n) (omega arith))
      | no even ↦ (let (k, e) = some_digit fuel (n / 2) (omega arith) (omega arith) in (suc k, bit_at-suc n k ∙ e))
    ]

-- binary digits that both are 1
digit_of_and : (m n k : ℕ) → bit_at m k ≡ 1 → bit_at n k ≡ 1 → 0 < bit_and m n
digit_of_and m n k p q =
    elim (dec_lt 0 (bit_and m n)) [
      | yes some ↦ some
      | no none ↦
          (let empty : bit_and m n ≡ 0 = omega arith in
          let one : bit_at (bit_and m n) k ≡ 1 = rw (bit_at_and m n k, p, q) refl in
          let zero' : bit_at (bit_and m n) k ≡ 0 = rw empty (bit_at-zero k) in
          omega arith)
    ]

digits_from_and : (m n k : ℕ) → bit_at (bit_and m n) k ≡ 1 → (bit_at m k ≡ 1) × (bit_at n k ≡ 1)
digits_from_and m n k e =
    let both : min (bit_at m k) (bit_at n k) ≡ 1 = sym (bit_at_and m n k) ∙ e in
    let p = bit_at-lt m k in
    let q = bit_at-lt n k in
    (omega arith, omega arith)

digit_of_or : (m n k : ℕ) → bit_at (bit_or m n) k ≡ 1 ↔ ((bit_at m k ≡ 1) ⊎ (bit_at n k ≡ 1))
digit_of_or m n k =
    let p = bit_at-lt m k in
    let q = bit_at-lt n k in (
      λ e. (let either : max (bit_at m k) (bit_at n k) ≡ 1 = sym (bit_at_or m n k) ∙ e in
          elim (dec_lt 0 (bit_at m k)) [ yes h ↦ inl (omega arith) | no h ↦ inr (omega arith) ]),
      λ h. bit_at_or m n k ∙ elim h [ inl e ↦ omega arith | inr e ↦ omega arith ],
    )

-- a union with a set that is not empty is not empty
pub bit_or-positive : (m n : ℕ) → 0 < m → 0 < bit_or m n
bit_or-positive m n some =
    elim (dec_lt 0 (bit_or m n)) [
      | yes more ↦ more
      | no none ↦
          (let (k, e) = some_digit m m (omega arith) some in
          let empty : bit_or m n ≡ 0 = omega arith in
          let one : bit_at (bit_or m n) k ≡ 1 = (digit_of_or m n k).1 (inl e) in
          let zero' : bit_at (bit_or m n) k ≡ 0 = rw empty (bit_at-zero k) in
          absurd (omega arith))
    ]

-- the digits of a union
digits_of_union : (m n : ℕ) → union m n + 1 ≡ bit_or (m + 1) (n + 1)
digits_of_union m n = let some = bit_or-positive (m + 1) (n + 1) (omega arith) in omega arith

HasNumber-union : (m n k : ℕ) → HasNumber (union m n) k ↔ (HasNumber m k ⊎ HasNumber n k)
HasNumber-union m n k = rw (digits_of_union m n) (digit_of_or (m + 1) (n + 1) k)

meet-from_number : (m n k : ℕ) → HasNumber m k → HasNumber n k → IsTrue (meet m n)
meet-from_number m n k p q = let some = digit_of_and (m + 1) (n + 1) k p q in grind (arith, nat_tests)

number-from_meet : (m n : ℕ) → IsTrue (meet m n) → (k : ℕ) × HasNumber m k × HasNumber n k
number-from_meet m n h =
    let some : 0 < bit_and (m + 1) (n + 1) = grind (arith, nat_tests) in
    let (k, e) = some_digit (bit_and (m + 1) (n + 1)) (bit_and (m + 1) (n + 1)) (omega arith) some in
    let both = digits_from_and (m + 1) (n + 1) k e in
    (k, both.0, both.1)

-- union is idempotent, commutative and associative
pub union_laws : JoinLaws union
union_laws = record {
  idempotent = λ m.
      let same : bit_or (m + 1) (m + 1) ≡ m + 1 = same_from_bits (bit_or (m + 1) (m + 1)) (m + 1) (λ i. rw (bit_at_or (m + 1) (m + 1) i) (omega arith)) in
      omega arith;
  commutative = λ m n.
      let same : bit_or (m + 1) (n + 1) ≡ bit_or (n + 1) (m + 1) = same_from_bits (bit_or (m + 1) (n + 1)) (bit_or (n + 1) (m + 1)) (λ i. rw (bit_at_or (m + 1) (n + 1) i, bit_at_or (n + 1) (m + 1) i) (omega arith)) in
      ap (λ x. x - 1) same;
  associative = λ m n k.
      let same : bit_or (bit_or (m + 1) (n + 1)) (k + 1) ≡ bit_or (m + 1) (bit_or (n + 1) (k + 1)) =
      same_from_bits (bit_or (bit_or (m + 1) (n + 1)) (k + 1)) (bit_or (m + 1) (bit_or (n + 1) (k + 1)))
      (λ i. rw (bit_at_or (bit_or (m + 1) (n + 1)) (k + 1) i, bit_at_or (m + 1) (n + 1) i, bit_at_or (m + 1) (bit_or (n + 1) (k + 1)) i, bit_at_or (n + 1) (k + 1) i) (omega arith)) in
      rw (digits_of_union m n, digits_of_union n k) (ap (λ x. x - 1) same);
}

-- each set meets itself, meeting goes both ways, and what meets a set meets its unions
pub meet_laws : MatchLaws meet union
meet_laws = record {
  reflexive = λ m. let (k, e) = some_digit (m + 1) (m + 1) (omega arith) (omega arith) in meet-from_number m m k e e;
  symmetric = λ m n h. let (k, p, q) = number-from_meet m n h in meet-from_number n m k q p;
  representative = λ m n j h. let (k, p, q) = number-from_meet m n h in meet-from_number m (union n j) k p ((HasNumber-union n j k).1 (inl q));
}

-- sets meet by common members, and a union has the members of both
pub number_laws : KeyLaws meet union HasNumber meet
number_laws = record {
  matching = number-from_meet;
  merged = HasNumber-union;
  shared = λ m n. (number-from_meet m n, λ (k, p, q). meet-from_number m n k p q);
}

-- a set is found by its members
pub seeking_laws : SeekingLaws meet HasNumber HasNumber meet
seeking_laws = record { matching = number-from_meet; near = λ m n k p q. meet-from_number n m k q p }

-- what finds a set by its members finds it by those of a union
pub finding_laws : FindingLaws union HasNumber HasNumber meet
finding_laws = record {
  found = λ m n. (λ h. (let (k, p, q) = number-from_meet m n h in (k, q, p)), λ (k, q, p). meet-from_number m n k p q);
  grows = λ w m n h. let (k, p, q) = number-from_meet w m h in meet-from_number w (union m n) k p ((HasNumber-union m n k).1 (inl q));
}

-- numbers that compare as equal are one
pub numbers_exact : (j k : ℕ) → nat_eq j k ≡ true → j ≡ k
numbers_exact j k h = grind (arith, nat_tests)
