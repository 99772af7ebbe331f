-- Texts that end in their only terminator, and tests over numbers.
use Rattle.std.proofs.Common.{◌≡◌, ℕ, zero, suc, ◌+◌, ◌-◌, ◌<◌, ◌≤◌, Bool, true, false, not, List, [], ◌∷◌, ◌++◌, length, get_or, take, drop, refl, sym, ◌∙◌, ap, arith}
use Rattle.std.proofs.Math.Seq.{drop-cons}
use Rattle.std.proofs.lemmas.Bool.{and_parts, and_from, eqb-true}
use Rattle.std.proofs.lemmas.Bool.Decides.{nat_tests}
use Rattle.std.specs.List.{list_all, list_any}
use Rattle.std.specs.Prelude.{◌==◌}
use Rattle.marc_fields.specs.Rows.{any_from, all_from, ends_in_only}
use Rattle.marc_fields.specs.Tilings.{is_marked}

not_end : (test : Bool) → (test ≡ true → ⊥) → not test ≡ true
not_end true h = absurd (h refl)
not_end false h = refl

-- one more on both sides
one_more : (m n : ℕ) → (suc m + 1 == suc n) ≡ (m + 1 == n)
one_more m n = grind (arith, nat_tests)

-- the terminator is not the last byte
not_last : (n : ℕ) → (0 + 1 == suc (suc n)) ≡ false
not_last n = grind (arith, nat_tests)

-- the first terminator stands at a place
pub ends-at : (end : ℕ) (range : List ℕ) (k : ℕ) → k < length range → (get_or range k 0 == end) ≡ true
    → ((j : ℕ) → j < k → (get_or range j 0 == end) ≡ true → ⊥) → (k + 1 == length range) ≡ ends_in_only end range
ends-at end [] k below is before = absurd (omega arith)
ends-at end (b ∷ []) zero below is before = sym is
ends-at end (b ∷ []) (suc k) below is before = absurd (omega arith)
ends-at end (b ∷ c ∷ rest) zero below is before = not_last (length rest) ∙ rw is refl
ends-at end (b ∷ c ∷ rest) (suc k) below is before =
    let other : not (b == end) ≡ true = not_end (b == end) (before 0 (omega arith)) in
    let less : k < length (c ∷ rest) = omega arith in
    one_more k (length (c ∷ rest))
    ∙ (ends-at end (c ∷ rest) k less is (λ j lt. before (suc j) (omega arith)) ∙ rw other refl)

-- no terminator at any place
pub ends-nowhere : (end : ℕ) (range : List ℕ) → ((j : ℕ) → j < length range → (get_or range j 0 == end) ≡ true → ⊥) → ends_in_only end range ≡ false
ends-nowhere end [] none = refl
ends-nowhere end (b ∷ []) none = false_from (b == end) (none 0 (omega arith))
  where
    false_from : (test : Bool) → (test ≡ true → ⊥) → test ≡ false
    false_from true h = absurd (h refl)
    false_from false h = refl
ends-nowhere end (b ∷ c ∷ rest) none =
    let other : not (b == end) ≡ true = not_end (b == end) (none 0 (omega arith)) in
    rw other (ends-nowhere end (c ∷ rest) (λ j below. none (suc j) (omega arith)))

-- a text that ends in its only terminator
pub record IsEnded (end : ℕ) (t : List ℕ) : Type 0 where
  pub some : 1 ≤ length t
  pub parts : t ≡ take (length t - 1) t ++ end ∷ []
  pub before : list_all (λ b. not (b == end)) (take (length t - 1) t) ≡ true

pub ends-parts : (end : ℕ) (t : List ℕ) → ends_in_only end t ≡ true → IsEnded end t
ends-parts end [] is = cc
ends-parts end (b ∷ []) is = record { some = omega arith; parts = ap (λ x. x ∷ []) (eqb-true b end is); before = refl }
ends-parts end (b ∷ c ∷ rest) is =
    let both = and_parts (not (b == end)) (ends_in_only end (c ∷ rest)) is in
    let later = ends-parts end (c ∷ rest) both.1 in
    let one : length (b ∷ c ∷ rest) - 1 ≡ suc (length (c ∷ rest) - 1) = omega arith in
    record {
      some = omega arith;
      parts = rw one (ap (λ x. b ∷ x) later.parts);
      before = rw one (and_from _ _ both.0 later.before);
    }

-- a text and a terminator that is not in it
pub ends-from : (end : ℕ) (text : List ℕ) → list_all (λ b. not (b == end)) text ≡ true → ends_in_only end (text ++ end ∷ []) ≡ true
ends-from end [] before = alike end
  where
    alike : (n : ℕ) → (n == n) ≡ true
    alike n = grind (arith, nat_tests)
ends-from end (b ∷ []) before =
    let both = and_parts (not (b == end)) true before in
    and_from _ _ both.0 (ends-from end [] refl)
ends-from end (b ∷ c ∷ rest) before =
    let both = and_parts (not (b == end)) (list_all (λ b. not (b == end)) (c ∷ rest)) before in
    and_from _ _ both.0 (ends-from end (c ∷ rest) both.1)

-- a test over numbers is one over the marks that tell it
pub any_from-marks : (passes : ℕ → Bool) (marks : List Bool) (start n : ℕ) → ((k : ℕ) → get_or marks k false ≡ passes k) → start + n ≤ length marks
    → any_from passes start n ≡ list_any is_marked (take n (drop start marks))
any_from-marks passes marks start zero tell room = refl
any_from-marks passes marks start (suc n) tell room =
    let less : start < length marks = omega arith in
    let more : suc start + n ≤ length marks = omega arith in
    rw (drop-cons marks start false less) (rw (tell start, any_from-marks passes marks (suc start) n tell more) refl)

pub all_from-marks : (passes : ℕ → Bool) (marks : List Bool) (start n : ℕ) → ((k : ℕ) → get_or marks k false ≡ passes k) → start + n ≤ length marks
    → all_from passes start n ≡ list_all is_marked (take n (drop start marks))
all_from-marks passes marks start zero tell room = refl
all_from-marks passes marks start (suc n) tell room =
    let less : start < length marks = omega arith in
    let more : suc start + n ≤ length marks = omega arith in
    rw (drop-cons marks start false less) (rw (tell start, all_from-marks passes marks (suc start) n tell more) refl)
