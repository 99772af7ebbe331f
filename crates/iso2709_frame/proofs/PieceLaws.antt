-- What is taken of a piece.
use Rattle.std.proofs.Common.{◌≡◌, ℕ, zero, suc, ◌+◌, ◌<◌, ◌≤◌, Bool, true, false, ◌||◌, cond, not, nat_lt, eqb, List, [], ◌∷◌, ◌++◌, length, get_or, take, drop, Some, None, refl, sym, ◌∙◌, ap, inl, inr, arith, append_assoc, length-append}
use Rattle.std.proofs.lemmas.Bool.{or_parts, or_from, ne_eqb, eqb-true, ltb-false, cases_Bool}
use Rattle.std.proofs.lemmas.List.{append-nil, take-append-drop, take_more}
use Rattle.std.proofs.Math.Seq.{drop-cons, drop-length}
use Rattle.std.specs.List.{list_any}
use Rattle.iso2709_frame.specs.Cutting.{too_long, told}
use Rattle.iso2709_frame.specs.Frames.{frames, first_piece, skip_breaks, is_terminator, IsWhole}
use Rattle.iso2709_frame.specs.Phases.{settled_of, pending_of, frame_of, IsGathered}
use Rattle.iso2709_frame.specs.declared.cut.Cut.TheVariants.{Whole, TooLong, Truncated}
use Rattle.iso2709_frame.proofs.FrameLaws.{IsOpen, IsOpen-append, first_piece-open, frames-part, frames-ended_part, skip_breaks-push, skip_breaks-twice, frames-left, list_any-skip_breaks}

-- a front in which no byte is a terminator is open
pub IsOpen-take : (text : List ℕ) (n : ℕ) → n ≤ length text → ((k : ℕ) → k < n → get_or text k 0 ≡ 29 → ⊥) → IsOpen (take n text)
IsOpen-take text zero h none = refl
IsOpen-take [] (suc n) h none = absurd (omega arith)
IsOpen-take (b ∷ rest) (suc n) h none =
    let here : 0 < suc n = omega arith in
    let below : n ≤ length rest = omega arith in
    or_from (is_terminator b) (list_any is_terminator (take n rest)) (ne_eqb b 29 (none 0 here))
    (IsOpen-take rest n below (λ k lt e. let later : suc k < suc n = omega arith in none (suc k) later e))

-- the first piece, where the first terminator was found
pub first_piece-found : (text : List ℕ) (at : ℕ) → at < length text → IsOpen (take at text) → get_or text at 0 ≡ 29
    → take (at + 1) text ≡ first_piece text
first_piece-found text at lt h is =
    let split : text ≡ take at text ++ 29 ∷ drop (suc at) text
    = sym (take-append-drop at text) ∙ ap (λ r. take at text ++ r) (drop-cons text at 0 lt ∙ ap (λ b. b ∷ drop (suc at) text) is) in
    take_more text at 0 lt ∙ (ap (λ b. take at text ++ b ∷ []) is
    ∙ sym (ap first_piece split ∙ first_piece-open (take at text) (29 ∷ drop (suc at) text) h))

-- an open text is its first piece
pub first_piece-all : (text : List ℕ) → IsOpen text → first_piece text ≡ text
first_piece-all text h = ap first_piece (sym (append-nil text)) ∙ (first_piece-open text [] h ∙ append-nil text)

-- the first piece of a text with a terminator ends in it
pub first_piece-ended : (text : List ℕ) → list_any is_terminator text ≡ true → (a : List ℕ) × (IsOpen a × (first_piece text ≡ a ++ 29 ∷ []))
first_piece-ended [] h = cc
first_piece-ended (b ∷ rest) h = elim (cases_Bool (is_terminator b)) [
  | inl e ↦ ([], (refl, ap (λ t. b ∷ cond t [] (first_piece rest)) e ∙ ap (λ x. x ∷ []) (eqb-true b 29 e)))
  | inr e ↦
      let later = first_piece-ended rest (ap (λ t. t || list_any is_terminator rest) (sym e) ∙ h) in (
        b ∷ later.0,
        (
          or_from (is_terminator b) (list_any is_terminator later.0) e later.1.0,
          ap (λ t. b ∷ cond t [] (first_piece rest)) e ∙ ap (λ r. b ∷ r) later.1.1,
        ),
      )
]

-- the first piece and what is after it are the text
pub first_piece-rest : (text : List ℕ) → text ≡ first_piece text ++ drop (length (first_piece text)) text
first_piece-rest [] = refl
first_piece-rest (b ∷ rest) = elim (cases_Bool (is_terminator b)) [
  | inl e ↦ rw e refl
  | inr e ↦ rw e (ap (λ r. b ∷ r) (first_piece-rest rest))
]

-- the cut of an ended frame, as it is told
frames-settled : (over : Bool) (held frame later : List ℕ) → held ≡ cond over [] frame
    → cond over (TooLong, []) (Whole, frame) ∷ frames later
    ≡ told (settled_of over true).1 (frame_of (settled_of over true).0 held) ++ frames (pending_of (settled_of over true).0 held ++ later)
frames-settled true held frame later kept = ap (λ k. (TooLong, []) ∷ frames (k ++ later)) (sym kept)
frames-settled false held frame later kept = ap (λ k. (Whole, k) ∷ frames later) (sym kept)

-- what a piece that was fed makes of the frames
pub frames-fed : (ended over overfull : Bool) (before held piece more : List ℕ)
    → ended ≡ list_any is_terminator piece
    → over ≡ (overfull || nat_lt 99999 (length (skip_breaks (before ++ first_piece piece))))
    → held ≡ cond over [] (skip_breaks (before ++ first_piece piece))
    → IsOpen before
    → frames (cond overfull too_long before ++ (piece ++ more))
    ≡ told (settled_of over ended).1 (frame_of (settled_of over ended).0 held)
    ++ frames (pending_of (settled_of over ended).0 held ++ (drop (length (first_piece piece)) piece ++ more))
frames-fed false false overfull before held piece more any is kept h =
    let all : first_piece piece ≡ piece = first_piece-all piece (sym any) in
    let none : drop (length (first_piece piece)) piece ≡ [] = ap (λ p. drop (length p) piece) all ∙ drop-length piece in
    let over : (overfull || nat_lt 99999 (length (skip_breaks (before ++ piece)))) ≡ false
    = ap (λ p. overfull || nat_lt 99999 (length (skip_breaks (before ++ p)))) (sym all) ∙ sym is in
    let kept_all : held ≡ skip_breaks (before ++ piece) = kept ∙ ap (λ p. skip_breaks (before ++ p)) all in
    frames-part overfull before piece more h (sym any)
    ∙ (ap (λ t. frames (cond t too_long (skip_breaks (before ++ piece)) ++ more)) over
    ∙ (ap (λ k. frames (k ++ more)) (sym kept_all) ∙ ap (λ r. frames (held ++ (r ++ more))) (sym none)))
frames-fed false true overfull before held piece more any is kept h =
    let all : first_piece piece ≡ piece = first_piece-all piece (sym any) in
    let none : drop (length (first_piece piece)) piece ≡ [] = ap (λ p. drop (length p) piece) all ∙ drop-length piece in
    let over : (overfull || nat_lt 99999 (length (skip_breaks (before ++ piece)))) ≡ true
    = ap (λ p. overfull || nat_lt 99999 (length (skip_breaks (before ++ p)))) (sym all) ∙ sym is in
    frames-part overfull before piece more h (sym any)
    ∙ (ap (λ t. frames (cond t too_long (skip_breaks (before ++ piece)) ++ more)) over
    ∙ ap (λ r. frames (too_long ++ (r ++ more))) (sym none))
frames-fed true over overfull before held piece more any is kept h =
    let found = first_piece-ended piece (sym any) in
    let rest = drop (length (first_piece piece)) piece in
    let split : piece ++ more ≡ (found.0 ++ 29 ∷ []) ++ (rest ++ more)
    = ap (λ p. p ++ more) (first_piece-rest piece ∙ ap (λ p. p ++ rest) found.1.1) ∙ append_assoc (found.0 ++ 29 ∷ []) rest more in
    let told_so : frames (cond overfull too_long before ++ (piece ++ more))
    ≡ cond (overfull || nat_lt 99999 (length (skip_breaks (before ++ first_piece piece)))) (TooLong, []) (Whole, skip_breaks (before ++ first_piece piece)) ∷ frames (rest ++ more)
    = ap (λ p. frames (cond overfull too_long before ++ p)) split
    ∙ (frames-ended_part overfull before found.0 (rest ++ more) h found.1.0
    ∙ ap (λ p. cond (overfull || nat_lt 99999 (length (skip_breaks (before ++ p)))) (TooLong, []) (Whole, skip_breaks (before ++ p)) ∷ frames (rest ++ more)) (sym found.1.1)) in
    told_so ∙ (ap (λ t. cond t (TooLong, []) (Whole, skip_breaks (before ++ first_piece piece)) ∷ frames (rest ++ more)) (sym is)
    ∙ frames-settled over held (skip_breaks (before ++ first_piece piece)) (rest ++ more) kept)

-- a frame that is not too long is whole
pub IsWhole-fed : (before held piece : List ℕ) → list_any is_terminator piece ≡ true
    → nat_lt 99999 (length (skip_breaks (before ++ first_piece piece))) ≡ false
    → held ≡ skip_breaks (before ++ first_piece piece) → IsOpen before → IsWhole held
IsWhole-fed before held piece any small kept h =
    let found = first_piece-ended piece any in
    let joined : before ++ first_piece piece ≡ (before ++ found.0) ++ 29 ∷ []
    = ap (λ p. before ++ p) found.1.1 ∙ sym (append_assoc before found.0 (29 ∷ [])) in
    let whole : skip_breaks (before ++ first_piece piece) ≡ skip_breaks (before ++ found.0) ++ 29 ∷ []
    = ap skip_breaks joined ∙ skip_breaks-push (before ++ found.0) in
    let fits : length (skip_breaks (before ++ first_piece piece)) ≤ 99999 = ltb-false _ _ small in
    record {
      size = omega (arith, ap length kept, fits);
      front = skip_breaks (before ++ found.0);
      open_front = list_any-skip_breaks (before ++ found.0) ∙ IsOpen-append before found.0 h found.1.0;
      ended = kept ∙ whole;
    }

-- what is held after a piece is gathered as its phase says
pub IsGathered-fed : (ended over : Bool) (before held piece : List ℕ) → ended ≡ list_any is_terminator piece
    → held ≡ cond over [] (skip_breaks (before ++ first_piece piece)) → IsOpen before → IsGathered (settled_of over ended).0 held
IsGathered-fed false false before held piece any kept h =
    let part_open : IsOpen (first_piece piece) = ap (λ p. list_any is_terminator p) (first_piece-all piece (sym any)) ∙ sym any in
    let all_open : IsOpen (before ++ first_piece piece) = IsOpen-append before (first_piece piece) h part_open in (
      ap (λ k. list_any is_terminator k) kept ∙ (list_any-skip_breaks (before ++ first_piece piece) ∙ all_open),
      ap skip_breaks kept ∙ (skip_breaks-twice (before ++ first_piece piece) ∙ sym kept),
    )
IsGathered-fed false true before held piece any kept h = kept
IsGathered-fed true false before held piece any kept h = tt
IsGathered-fed true true before held piece any kept h =
    (ap (λ k. list_any is_terminator k) kept, ap skip_breaks kept ∙ sym kept)

-- a frame that is told to be whole is one
pub IsWhole-settled : (ended over overfull : Bool) (before held piece : List ℕ) → ended ≡ list_any is_terminator piece
    → over ≡ (overfull || nat_lt 99999 (length (skip_breaks (before ++ first_piece piece))))
    → held ≡ cond over [] (skip_breaks (before ++ first_piece piece)) → IsOpen before
    → (settled_of over ended).1 ≡ Some Whole → IsWhole (frame_of (settled_of over ended).0 held)
IsWhole-settled false false overfull before held piece any is kept h whole = cc
IsWhole-settled false true overfull before held piece any is kept h whole = cc
IsWhole-settled true true overfull before held piece any is kept h whole = cc
IsWhole-settled true false overfull before held piece any is kept h whole =
    IsWhole-fed before held piece (sym any) (or_parts overfull (nat_lt 99999 (length (skip_breaks (before ++ first_piece piece)))) (sym is)).1 kept h

-- what is told where a stream ends in bytes that are gathered
pub frames-gathered : (held : List ℕ) (empty : Bool) → IsOpen held → skip_breaks held ≡ held → empty ≡ eqb (length held) 0
    → frames held ≡ told (cond (not empty) (Some Truncated) None) []
frames-gathered [] true h kept e = refl
frames-gathered [] false h kept e = cc
frames-gathered (b ∷ rest) true h kept e =
    let none : length (b ∷ rest) ≡ 0 = eqb-true (length (b ∷ rest)) 0 (sym e) in
    absurd (omega arith)
frames-gathered (b ∷ rest) false h kept e =
    let some : 0 < length (b ∷ rest) = omega arith in
    frames-left (b ∷ rest) h kept some

-- the first piece is no longer than the text
pub length-first_piece : (text : List ℕ) → length (first_piece text) ≤ length text
length-first_piece text =
    omega (arith, ap length (first_piece-rest text), length-append (first_piece text) (drop (length (first_piece text)) text))

-- the first piece of a text that is not empty is not empty
pub first_piece-some : (text : List ℕ) → 0 < length text → 0 < length (first_piece text)
first_piece-some [] h = h
first_piece-some (b ∷ rest) h = omega arith

-- no part is told to be cut off
pub settled_of-kind : (ended over : Bool) → (settled_of over ended).1 ≡ Some Truncated → ⊥
settled_of-kind false false e = cc
settled_of-kind false true e = cc
settled_of-kind true false e = cc
settled_of-kind true true e = cc
