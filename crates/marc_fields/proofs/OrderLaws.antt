-- Ranges that lie in order and each end in a terminator, where there are as many terminators as ranges.
use Rattle.std.proofs.Common.{◌≡◌, ℕ, zero, suc, ◌+◌, ◌-◌, ◌<◌, ◌≤◌, Bool, true, false, not, ◌&&◌, List, [], ◌∷◌, ◌++◌, length, get_or, take, drop, refl, sym, ◌∙◌, ap, arith}
use Rattle.std.proofs.lemmas.Bool.{and_parts, and_from}
use Rattle.std.proofs.lemmas.Bool.Decides.{nat_tests}
use Rattle.std.proofs.lemmas.List.{length-take, take-append-drop, get_or-take}
use Rattle.std.specs.Prelude.{◌==◌, nat_le, if◌then◌else◌}
use Rattle.marc_leader.specs.declared.entry.Entry.{Entry}
use Rattle.marc_fields.specs.Rows.{ends_in_only}
use Rattle.marc_fields.specs.Tilings.{count_of, end_in_order, lie_in_order}

-- a byte stands in two texts as often as in the one and in the other
pub count_of-append : (byte : ℕ) (text rest : List ℕ) → count_of byte (text ++ rest) ≡ count_of byte text + count_of byte rest
count_of-append byte [] rest = omega arith
count_of-append byte (b ∷ text) rest = omega (arith, count_of-append byte text rest)

-- and no more often than there are bytes
pub count_of-most : (byte : ℕ) (text : List ℕ) → count_of byte text ≤ length text
count_of-most byte [] = omega arith
count_of-most byte (b ∷ text) = one (b == byte) (count_of-most byte text)
  where
    one : (test : Bool) → count_of byte text ≤ length text → (if test then 1 else 0) + count_of byte text ≤ suc (length text)
    one true most = omega (arith, most)
    one false most = omega (arith, most)

-- of a text that is cut in two
pub count_of-cut : (byte n : ℕ) (text : List ℕ) → count_of byte text ≡ count_of byte (take n text) + count_of byte (drop n text)
count_of-cut byte n text = ap (count_of byte) (sym (take-append-drop n text)) ∙ count_of-append byte (take n text) (drop n text)

-- a byte that stands at a place
count_of-at : (byte : ℕ) (text : List ℕ) (k : ℕ) → k < length text → (get_or text k 0 == byte) ≡ true → 1 ≤ count_of byte text
count_of-at byte [] k below is = absurd (omega arith)
count_of-at byte (b ∷ text) zero below is = rw is (omega arith)
count_of-at byte (b ∷ text) (suc k) below is = let later = count_of-at byte text k (omega arith) is in omega (arith, later)

-- a text that ends in a terminator, and has no other
counted-ends : (text : List ℕ) → 1 ≤ length text → (get_or text (length text - 1) 0 == 0x1E) ≡ true → count_of 0x1E text ≡ 1 → ends_in_only 0x1E text ≡ true
counted-ends [] some last one = absurd (omega arith)
counted-ends (b ∷ []) some last one = last
counted-ends (b ∷ c ∷ rest) some last one =
    let place : length (b ∷ c ∷ rest) - 1 ≡ suc (length rest) = omega arith in
    let same : length (c ∷ rest) - 1 ≡ length rest = omega arith in
    let later : (get_or (c ∷ rest) (length rest) 0 == 0x1E) ≡ true = rw place at last in
    let more = count_of-at 0x1E (c ∷ rest) (length rest) (omega arith) later in
    let parts = first (b == 0x1E) (count_of 0x1E (c ∷ rest)) more one in
    and_from _ _ (ap not parts.0) (counted-ends (c ∷ rest) (omega arith) (rw same later) parts.1)
  where
    first : (test : Bool) (n : ℕ) → 1 ≤ n → (if test then 1 else 0) + n ≡ 1 → (test ≡ false) × (n ≡ 1)
    first true n more one = absurd (omega (arith, more, one))
    first false n more one = (refl, omega (arith, one))

-- the first range, and the others
record IsEnded (start : ℕ) (rest : List ℕ) (e : Entry) (entries : List Entry) : Type 0 where
  pub at : (e.start == start) ≡ true
  pub some : 1 ≤ e.length
  pub short : nat_le e.length (length rest) ≡ true
  pub inside : e.length ≤ length rest
  pub last : (get_or rest (e.length - 1) 0 == 0x1E) ≡ true
  pub later : end_in_order (start + e.length) (drop e.length rest) entries ≡ true

most : (m n : ℕ) → nat_le m n ≡ true → m ≤ n
most m n h = grind (arith, nat_tests)

ended-parts : (start : ℕ) (rest : List ℕ) (e : Entry) (entries : List Entry) → end_in_order start rest (e ∷ entries) ≡ true → IsEnded start rest e entries
ended-parts start rest e entries ends =
    let both = and_parts ((e.start == start) && (nat_le 1 e.length && nat_le e.length (length rest))) _ ends in
    let place = and_parts (e.start == start) (nat_le 1 e.length && nat_le e.length (length rest)) both.0 in
    let size = and_parts (nat_le 1 e.length) (nat_le e.length (length rest)) place.1 in
    let field = and_parts (get_or rest (e.length - 1) 0 == 0x1E) (end_in_order (start + e.length) (drop e.length rest) entries) both.1 in
    record {
      at = place.0;
      some = most 1 e.length size.0;
      short = size.1;
      inside = most e.length (length rest) size.1;
      last = field.0;
      later = field.1;
    }

-- the range's terminator
ended-one : (start : ℕ) (rest : List ℕ) (e : Entry) (entries : List Entry) → IsEnded start rest e entries → 1 ≤ count_of 0x1E (take e.length rest)
ended-one start rest e entries ended =
    let there : get_or (take e.length rest) (e.length - 1) 0 ≡ get_or rest (e.length - 1) 0
    = get_or-take e.length rest (e.length - 1) 0 (omega (arith, ended.some)) in
    count_of-at 0x1E (take e.length rest) (e.length - 1) (omega (arith, length-take e.length rest, ended.some, ended.inside)) (ap (λ b. b == 0x1E) there ∙ ended.last)

-- there are as many terminators as ranges, at least
ended-most : (start : ℕ) (rest : List ℕ) (entries : List Entry) → end_in_order start rest entries ≡ true → length entries ≤ count_of 0x1E rest
ended-most start rest [] ends = omega arith
ended-most start rest (e ∷ entries) ends =
    let ended = ended-parts start rest e entries ends in
    let one = ended-one start rest e entries ended in
    let later = ended-most (start + e.length) (drop e.length rest) entries ended.later in
    omega (arith, one, later, count_of-cut 0x1E e.length rest)

-- where there are no more, each range ends in its only one
pub counted-order : (start : ℕ) (rest : List ℕ) (entries : List Entry) → end_in_order start rest entries ≡ true → count_of 0x1E rest ≡ length entries
    → lie_in_order start rest entries ≡ true
counted-order start rest [] ends counted = ends
counted-order start rest (e ∷ entries) ends counted =
    let ended = ended-parts start rest e entries ends in
    let one = ended-one start rest e entries ended in
    let later = ended-most (start + e.length) (drop e.length rest) entries ended.later in
    let cut = count_of-cut 0x1E e.length rest in
    let range : List ℕ = take e.length rest in
    let size : length range ≡ e.length = omega (arith, length-take e.length rest, ended.inside) in
    let there : get_or range (e.length - 1) 0 ≡ get_or rest (e.length - 1) 0
    = get_or-take e.length rest (e.length - 1) 0 (omega (arith, ended.some)) in
    let last : (get_or range (length range - 1) 0 == 0x1E) ≡ true
    = ap (λ n. get_or range (n - 1) 0 == 0x1E) size ∙ (ap (λ b. b == 0x1E) there ∙ ended.last) in
    let only = counted-ends range (omega (arith, size, ended.some)) last (omega (arith, one, later, cut, counted)) in
    and_from _ _ (and_from _ _ ended.at ended.short)
    (and_from _ _ only (counted-order (start + e.length) (drop e.length rest) entries ended.later (omega (arith, one, later, cut, counted))))
