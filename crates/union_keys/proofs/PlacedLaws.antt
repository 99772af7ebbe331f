-- Where the frames of a text stand, piece by piece.
use Rattle.std.proofs.Common.{◌≡◌, ℕ, ◌+◌, ◌-◌, ◌<◌, ◌≤◌, Bool, true, false, nat_lt, if◌then◌else◌, List, [], ◌∷◌, ◌++◌, length, take, drop, map, refl, sym, ◌∙◌, ap, inl, inr, arith}
use Rattle.std.specs.List.{list_any}
use Rattle.std.proofs.lemmas.Bool.{cases_Bool}
use Rattle.std.proofs.lemmas.Bool.Decides.{nat_tests}
use Rattle.std.proofs.lemmas.List.{take_at}
use Rattle.iso2709_frame.specs.declared.cut.Cut.{Cut}
use Rattle.iso2709_frame.specs.declared.cut.Cut.TheVariants.{Whole, TooLong, Truncated}
use Rattle.iso2709_frame.specs.Frames.{is_terminator, first_piece, skip_breaks, cut_of, cut_piece, IsWhole}
use Rattle.iso2709_frame.proofs.FrameLaws.{list_any-skip_breaks}
use Rattle.iso2709_frame.proofs.PieceLaws.{IsWhole-fed, first_piece-rest}
use Rattle.union_keys.specs.Placed.{placed_at, placed_piece, placed_later, placed_from}

-- the frames after the first piece are those of what comes after it
placed_later-next : (at : ℕ) (text : List ℕ)
    → placed_later at text ≡ placed_from (at + length (first_piece text)) (drop (length (first_piece text)) text)
placed_later-next at [] = refl
placed_later-next at (byte ∷ rest) = elim (cases_Bool (is_terminator byte)) [
  | inl e ↦ rw e refl
  | inr e ↦
      let moved : (at + 1) + length (first_piece rest) ≡ at + length (byte ∷ first_piece rest) = omega arith in
      rw e (placed_later-next (at + 1) rest ∙ ap (λ n. placed_from n (drop (length (first_piece rest)) rest)) moved)
]

pub placed_from-next : (at : ℕ) (text : List ℕ) → placed_from at text
    ≡ placed_piece at (first_piece text) ++ placed_from (at + length (first_piece text)) (drop (length (first_piece text)) text)
placed_from-next at text = ap (λ x. placed_piece at (first_piece text) ++ x) (placed_later-next at text)

-- a piece of CR and LF alone has no frame
pub placed_piece-none : (at : ℕ) (piece : List ℕ) → skip_breaks piece ≡ [] → placed_piece at piece ≡ []
placed_piece-none at piece e =
    ap (λ s. map (placed_at (at + (length piece - length (skip_breaks piece))) (skip_breaks piece)) (cut_of s)) e

-- any other has one
pub placed_piece-one : (at : ℕ) (piece frame : List ℕ) (cut : Cut) (bytes : List ℕ) → frame ≡ skip_breaks piece
    → cut_piece piece ≡ (cut, bytes) ∷ [] → placed_piece at piece ≡ placed_at (at + (length piece - length frame)) frame (cut, bytes) ∷ []
placed_piece-one at piece frame cut bytes e h =
    ap (map (placed_at (at + (length piece - length (skip_breaks piece))) (skip_breaks piece))) h
    ∙ ap (λ f. placed_at (at + (length piece - length f)) f (cut, bytes) ∷ []) (sym e)

-- how a frame is cut, by whether it is ended and whether it is too long
cut_of-is : (ended over : Bool) (frame : List ℕ) → 0 < length frame → ended ≡ list_any is_terminator frame → over ≡ nat_lt 99999 (length frame)
    → cut_of frame ≡ (if ended then (if over then (TooLong, []) else (Whole, frame)) else (Truncated, [])) ∷ []
cut_of-is ended over [] some e o = absurd (omega arith)
cut_of-is ended over (b ∷ rest) some e o = rw (e, o) refl

pub cut_piece-is : (ended over : Bool) (piece frame : List ℕ) → frame ≡ skip_breaks piece → 0 < length frame → ended ≡ list_any is_terminator frame
    → over ≡ nat_lt 99999 (length frame)
    → cut_piece piece ≡ (if ended then (if over then (TooLong, []) else (Whole, frame)) else (Truncated, [])) ∷ []
cut_piece-is ended over piece frame e some h o = ap cut_of (sym e) ∙ cut_of-is ended over frame some h o

-- the frame of an ended piece is whole, where it is not too long
fits : (n : ℕ) → n ≤ 99999 → nat_lt 99999 n ≡ false
fits n most = grind (arith, nat_tests)

pub IsWhole-cut : (piece frame : List ℕ) → first_piece piece ≡ piece → frame ≡ skip_breaks piece → list_any is_terminator frame ≡ true
    → length frame ≤ 99999 → IsWhole frame
IsWhole-cut piece frame first e ended most =
    let small = fits (length frame) most in
    let same : frame ≡ skip_breaks (first_piece piece) = e ∙ ap skip_breaks (sym first) in
    IsWhole-fed [] frame piece
    (sym (list_any-skip_breaks piece) ∙ ap (λ f. list_any is_terminator f) (sym e) ∙ ended)
    (ap (λ f. nat_lt 99999 (length f)) (sym same) ∙ small)
    same refl

-- the first piece of a piece is all of it
pub first_piece-twice : (text : List ℕ) → first_piece (first_piece text) ≡ first_piece text
first_piece-twice [] = refl
first_piece-twice (byte ∷ rest) = elim (cases_Bool (is_terminator byte)) [
  | inl e ↦ rw e refl
  | inr e ↦ rw e (ap (λ r. byte ∷ r) (first_piece-twice rest))
]

-- the prefix of a text that has the size of its first piece
pub piece-is : (text piece : List ℕ) (size : ℕ) → piece ≡ take size text → size ≡ length (first_piece text) → piece ≡ first_piece text
piece-is text piece size is n =
    let first = first_piece text in
    is ∙ (ap (λ m. take m text) n
    ∙ (ap (λ t. take (length first) t) (first_piece-rest text) ∙ take_at first (drop (length first) text) (length first) refl))
