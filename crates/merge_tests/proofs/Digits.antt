-- The places of the binary digits 1 of a number, collected one after another, and those of one number beside another's.
use Rattle.std.proofs.Common.{◌≡◌, ℕ, ◌+◌, ◌%◌, ◌<◌, ◌^◌, ◌≢◌, List, [], ◌∷◌, ◌++◌, bit_and, bit_xor, min, sym, ◌∙◌, ap, inl, inr, arith}
use Rattle.std.specs.Prelude.{◌↔◌, Contains, AllPairs}
use Rattle.std.specs.Int.{bit_at}
use Rattle.std.proofs.Math.Decide.{dec_lt}
use Rattle.std.proofs.lemmas.Nat.Bits.{bit_at-lt, bit_at_above, bit_at_and, bit_at_xor}
use Rattle.std.proofs.lemmas.List.Elements.{Contains-append_left, Contains-push, Contains-push_cases}
use Rattle.merge_laws.proofs.Places.{Contains-cases, AllPairs-none, AllPairs-one, AllPairs-append}

-- The list has the places below the limit at which the number has a 1, each once.
pub record HasPlaces (n limit : ℕ) (places : List ℕ) : Type 0 where
  pub members : (k : ℕ) → Contains places k ↔ ((k < limit) × (bit_at n k ≡ 1))
  pub once : AllPairs (λ j k. j ≢ k) places

pub places_none : (n : ℕ) → HasPlaces n 0 []
places_none n = record {
  members = λ k. (λ (j, jl, e). absurd (omega arith), λ (kl, e). absurd (omega arith));
  once = AllPairs-none (λ j k. j ≢ k);
}

-- the next digit is 0
pub places_passed : (n limit : ℕ) (places : List ℕ) → HasPlaces n limit places → bit_at n limit ≢ 1 → HasPlaces n (limit + 1) places
places_passed n limit places h zero' = record {
  members = λ k. (
    λ c. (let (kl, e) = (h.members k).0 c in (omega arith, e)),
    λ (kl, e). elim (dec_lt k limit) [
      | yes below ↦ (h.members k).1 (below, e)
      | no past ↦ (let same : k ≡ limit = omega arith in absurd (zero' (rw same at e)))
    ],
  );
  once = h.once;
}

-- the next digit is 1
pub places_pushed : (n limit : ℕ) (places : List ℕ) → HasPlaces n limit places → bit_at n limit ≡ 1 → HasPlaces n (limit + 1) (places ++ limit ∷ [])
places_pushed n limit places h one = record {
  members = λ k. (
    λ c. elim (Contains-push_cases places limit k c) [
      | inl old ↦ (let (kl, e) = (h.members k).0 old in (omega arith, e))
      | inr same ↦ (omega arith, rw (← same) one)
    ],
    λ (kl, e). elim (dec_lt k limit) [
      | yes below ↦ Contains-append_left places (limit ∷ []) k ((h.members k).1 (below, e))
      | no past ↦ (let same : limit ≡ k = omega arith in rw (← same) (Contains-push places limit))
    ],
  );
  once = AllPairs-append (λ j k. j ≢ k) places (limit ∷ []) h.once (AllPairs-one (λ j k. j ≢ k) limit)
      (λ j k cj ck. elim (Contains-cases limit [] k ck) as (λ _. j ≢ k) [
        | inl same ↦ (let below = ((h.members j).0 cj).0 in λ e. omega arith)
        | inr (i, il, e) ↦ absurd (omega arith)
      ]);
}

-- a number has no 1 past its width
pub places_all : (n limit : ℕ) (places : List ℕ) → HasPlaces n limit places → n < 2 ^ limit → (k : ℕ) → Contains places k ↔ (bit_at n k ≡ 1)
places_all n limit places h small k = (
  λ c. ((h.members k).0 c).1,
  λ e. elim (dec_lt k limit) [
    | yes below ↦ (h.members k).1 (below, e)
    | no past ↦ (let none : bit_at n k ≡ 0 = bit_at_above n limit k small (omega arith) in absurd (omega arith))
  ],
)

-- a number that another is not changed by has all digits 1 of this one
pub digits_kept : (m n : ℕ) → bit_and m n ≡ n → (k : ℕ) → bit_at n k ≡ 1 → bit_at m k ≡ 1
digits_kept m n same k e =
    let both : min (bit_at m k) (bit_at n k) ≡ 1 = sym (bit_at_and m n k) ∙ rw same e in
    let p = bit_at-lt m k in
    omega arith

-- the digits 1 of a number but those that another has
pub digits_beside : (m n k : ℕ) → bit_at (bit_xor m (bit_and m n)) k ≡ 1 ↔ ((bit_at m k ≡ 1) × (bit_at n k ≡ 1 → ⊥))
digits_beside m n k =
    let p = bit_at-lt m k in
    let q = bit_at-lt n k in
    let digit : bit_at (bit_xor m (bit_and m n)) k ≡ (bit_at m k + min (bit_at m k) (bit_at n k)) % 2 =
    bit_at_xor m (bit_and m n) k ∙ ap (λ x. (bit_at m k + x) % 2) (bit_at_and m n k) in (
      λ e. (let odd : (bit_at m k + min (bit_at m k) (bit_at n k)) % 2 ≡ 1 = sym digit ∙ e in (omega arith, λ h. omega arith)),
      λ (one, none). digit ∙ elim (dec_lt 0 (bit_at n k)) [ yes h ↦ absurd (none (omega arith)) | no h ↦ omega arith ],
    )
