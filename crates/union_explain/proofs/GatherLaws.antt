-- How a frame is gathered byte by byte.
use Rattle.std.proofs.Common.{◌≡◌, ℕ, ◌+◌, ◌-◌, ◌<◌, ◌≤◌, Bool, true, false, ◌||◌, cond, List, [], ◌∷◌, ◌++◌, length, take, refl, sym, ◌∙◌, ap, inl, inr, arith, length-append}
use Rattle.std.proofs.lemmas.Bool.{cases_Bool, cases_lt}
use Rattle.std.proofs.lemmas.List.{nil_from_length, take_all, take-append-le, length-take-le}
use Rattle.std.proofs.lemmas.List.Folds.{list_any-append}
use Rattle.std.specs.List.{list_any}
use Rattle.iso2709_frame.specs.Frames.{skip_breaks, is_break, is_terminator}
use Rattle.union_explain.specs.Located.{Located, frame_at}
use Rattle.union_explain.proofs.RowLaws.{or_none}

-- after CR and LF alone, those of the rest are skipped too
pub skip_breaks-breaks : (front more : List ℕ) → length (skip_breaks front) ≡ 0 → skip_breaks (front ++ more) ≡ skip_breaks more
skip_breaks-breaks [] more h = refl
skip_breaks-breaks (b ∷ front) more h = elim (cases_Bool (is_break b)) [
  | inl e ↦
      ap (λ t. cond t (skip_breaks (front ++ more)) (b ∷ (front ++ more))) e
      ∙ skip_breaks-breaks front more (sym (ap (λ t. length (cond t (skip_breaks front) (b ∷ front))) e) ∙ h)
  | inr e ↦
      let none : length (b ∷ front) ≡ 0 = sym (ap (λ t. length (cond t (skip_breaks front) (b ∷ front))) e) ∙ h in
      absurd (omega arith)
]

-- after a byte that is kept, all is kept
pub skip_breaks-more : (front more : List ℕ) → 0 < length (skip_breaks front) → skip_breaks (front ++ more) ≡ skip_breaks front ++ more
skip_breaks-more [] more h = absurd (omega arith)
skip_breaks-more (b ∷ front) more h = elim (cases_Bool (is_break b)) [
  | inl e ↦
      let some : 0 < length (skip_breaks front) = omega (arith, h, ap (λ t. length (cond t (skip_breaks front) (b ∷ front))) e) in
      ap (λ t. cond t (skip_breaks (front ++ more)) (b ∷ (front ++ more))) e
      ∙ (skip_breaks-more front more some ∙ sym (ap (λ t. cond t (skip_breaks front) (b ∷ front) ++ more) e))
  | inr e ↦
      ap (λ t. cond t (skip_breaks (front ++ more)) (b ∷ (front ++ more))) e
      ∙ sym (ap (λ t. cond t (skip_breaks front) (b ∷ front) ++ more) e)
]

-- skipping makes no text longer
pub length-skip_breaks : (text : List ℕ) → length (skip_breaks text) ≤ length text
length-skip_breaks [] = omega arith
length-skip_breaks (b ∷ text) = elim (cases_Bool (is_break b)) [
  | inl e ↦ omega (arith, length-skip_breaks text, ap (λ t. length (cond t (skip_breaks text) (b ∷ text))) e)
  | inr e ↦ omega (arith, ap (λ t. length (cond t (skip_breaks text) (b ∷ text))) e)
]

-- a byte that is neither CR nor LF is kept, and so is any after one
pub skip_breaks-kept : (front : List ℕ) (byte : ℕ) → (length (skip_breaks front) ≡ 0 → is_break byte ≡ false)
    → skip_breaks (front ++ byte ∷ []) ≡ skip_breaks front ++ byte ∷ []
skip_breaks-kept front byte h = elim (cases_lt 0 (length (skip_breaks front))) [
  | inl some ↦ skip_breaks-more front (byte ∷ []) some
  | inr none ↦
      let zero_long : length (skip_breaks front) ≡ 0 = omega (arith, none) in
      skip_breaks-breaks front (byte ∷ []) zero_long
      ∙ (ap (λ t. cond t [] (byte ∷ [])) (h zero_long)
      ∙ sym (ap (λ s. s ++ byte ∷ []) (nil_from_length (skip_breaks front) zero_long)))
]

-- a frame of equal parts
abbrev pub located_of : ℕ → ℕ → Bool → List ℕ → Located
located_of first size ended bytes = record { first = first; size = size; ended = ended; bytes = bytes }

same_parts : (first first' size size' : ℕ) (ended ended' : Bool) (bytes bytes' : List ℕ) → first ≡ first' → size ≡ size' → ended ≡ ended'
    → bytes ≡ bytes' → located_of first size ended bytes ≡ located_of first' size' ended' bytes'
same_parts first first' size size' ended ended' bytes bytes' a b e c =
    ap (λ x. located_of x size ended bytes) a ∙ (ap (λ x. located_of first' x ended bytes) b
    ∙ (ap (λ x. located_of first' size' x bytes) e ∙ ap (λ x. located_of first' size' ended' x) c))

-- a piece is ended by the terminator that it has, or by the one that comes
ended-more : (at : ℕ) (front : List ℕ) (byte first size : ℕ) (ended now : Bool) (bytes : List ℕ)
    → located_of first size ended bytes ≡ frame_at at front → now ≡ (ended || is_terminator byte)
    → now ≡ list_any is_terminator (front ++ byte ∷ [])
ended-more at front byte first size ended now bytes h is =
    let was : ended ≡ list_any is_terminator front = ap (λ g. g.ended) h in
    is ∙ (ap (λ t. t || is_terminator byte) was ∙ (ap (λ t. list_any is_terminator front || t) (or_none (is_terminator byte))
    ∙ sym (list_any-append is_terminator front (byte ∷ []))))

-- CR or LF before a frame moves its first byte
pub adds_break : (at : ℕ) (front : List ℕ) (byte first size : ℕ) (ended now : Bool) (bytes : List ℕ)
    → located_of first size ended bytes ≡ frame_at at front → now ≡ (ended || is_terminator byte)
    → size ≡ 0 → is_break byte ≡ true → located_of (first + 1) size now bytes ≡ frame_at at (front ++ byte ∷ [])
adds_break at front byte first size ended now bytes h ends none is =
    let old_size : size ≡ length (skip_breaks front) = ap (λ g. g.size) h in
    let zero_long : length (skip_breaks front) ≡ 0 = omega (arith, old_size, none) in
    let skipped : skip_breaks (front ++ byte ∷ []) ≡ [] =
    skip_breaks-breaks front (byte ∷ []) zero_long ∙ ap (λ t. cond t [] (byte ∷ [])) is in
    let old_first : first ≡ at + (length front - length (skip_breaks front)) = ap (λ g. g.first) h in
    same_parts (first + 1) (at + (length (front ++ byte ∷ []) - length (skip_breaks (front ++ byte ∷ []))))
    size (length (skip_breaks (front ++ byte ∷ []))) now (list_any is_terminator (front ++ byte ∷ [])) bytes (take 99999 (skip_breaks (front ++ byte ∷ [])))
    (omega (arith, old_first, zero_long, ap length skipped, length-append front (byte ∷ [])))
    (omega (arith, none, ap length skipped))
    (ended-more at front byte first size ended now bytes h ends)
    (ap (λ g. g.bytes) h ∙ ap (take 99999) (nil_from_length (skip_breaks front) zero_long ∙ sym skipped))

-- any other byte makes it longer
adds_byte : (at : ℕ) (front : List ℕ) (byte first size : ℕ) (ended now : Bool) (bytes kept : List ℕ)
    → located_of first size ended bytes ≡ frame_at at front → now ≡ (ended || is_terminator byte)
    → (size ≡ 0 → is_break byte ≡ false) → kept ≡ take 99999 (skip_breaks front ++ byte ∷ [])
    → located_of first (size + 1) now kept ≡ frame_at at (front ++ byte ∷ [])
adds_byte at front byte first size ended now bytes kept h ends no_break is =
    let old_size : size ≡ length (skip_breaks front) = ap (λ g. g.size) h in
    let joined : skip_breaks (front ++ byte ∷ []) ≡ skip_breaks front ++ byte ∷ [] =
    skip_breaks-kept front byte (λ none. no_break (old_size ∙ none)) in
    let old_first : first ≡ at + (length front - length (skip_breaks front)) = ap (λ g. g.first) h in
    let longer : length (skip_breaks (front ++ byte ∷ [])) ≡ length (skip_breaks front) + 1 =
    ap length joined ∙ length-append (skip_breaks front) (byte ∷ []) in
    same_parts first (at + (length (front ++ byte ∷ []) - length (skip_breaks (front ++ byte ∷ []))))
    (size + 1) (length (skip_breaks (front ++ byte ∷ []))) now (list_any is_terminator (front ++ byte ∷ [])) kept (take 99999 (skip_breaks (front ++ byte ∷ [])))
    (omega (arith, old_first, longer, length-append front (byte ∷ []), length-skip_breaks front))
    (omega (arith, old_size, longer))
    (ended-more at front byte first size ended now bytes h ends)
    (is ∙ ap (take 99999) (sym joined))

-- where there is room, it is kept
pub adds_kept : (at : ℕ) (front : List ℕ) (byte first size : ℕ) (ended now : Bool) (bytes kept : List ℕ)
    → located_of first size ended bytes ≡ frame_at at front → now ≡ (ended || is_terminator byte)
    → (size ≡ 0 → is_break byte ≡ false) → length bytes < 99999 → kept ≡ bytes ++ byte ∷ []
    → located_of first (size + 1) now kept ≡ frame_at at (front ++ byte ∷ [])
adds_kept at front byte first size ended now bytes kept h ends no_break room is =
    let old_bytes : bytes ≡ take 99999 (skip_breaks front) = ap (λ g. g.bytes) h in
    let short : length (skip_breaks front) < 99999 = elim (cases_lt (length (skip_breaks front)) 99999) [
      | inl lt ↦ lt
      | inr le ↦ absurd (omega (arith, room, ap length old_bytes, length-take-le 99999 (skip_breaks front) le))
    ] in
    let whole : take 99999 (skip_breaks front) ≡ skip_breaks front = take_all 99999 (skip_breaks front) (omega (arith, short)) in
    let joined : take 99999 (skip_breaks front ++ byte ∷ []) ≡ skip_breaks front ++ byte ∷ [] =
    take_all 99999 (skip_breaks front ++ byte ∷ []) (omega (arith, short, length-append (skip_breaks front) (byte ∷ []))) in
    adds_byte at front byte first size ended now bytes kept h ends no_break (is ∙ (ap (λ xs. xs ++ byte ∷ []) (old_bytes ∙ whole) ∙ sym joined))

-- and else it is only counted
pub adds_counted : (at : ℕ) (front : List ℕ) (byte first size : ℕ) (ended now : Bool) (bytes : List ℕ)
    → located_of first size ended bytes ≡ frame_at at front → now ≡ (ended || is_terminator byte)
    → (size ≡ 0 → is_break byte ≡ false) → 99999 ≤ length bytes
    → located_of first (size + 1) now bytes ≡ frame_at at (front ++ byte ∷ [])
adds_counted at front byte first size ended now bytes h ends no_break full =
    let old_bytes : bytes ≡ take 99999 (skip_breaks front) = ap (λ g. g.bytes) h in
    let long : 99999 ≤ length (skip_breaks front) = elim (cases_lt (length (skip_breaks front)) 99999) [
      | inl lt ↦
          let whole : take 99999 (skip_breaks front) ≡ skip_breaks front = take_all 99999 (skip_breaks front) (omega (arith, lt)) in
          absurd (omega (arith, full, lt, ap length (old_bytes ∙ whole)))
      | inr le ↦ le
    ] in
    adds_byte at front byte first size ended now bytes bytes h ends no_break (old_bytes ∙ sym (take-append-le 99999 (skip_breaks front) (byte ∷ []) long))
