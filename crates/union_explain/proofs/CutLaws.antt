-- The frames that are located in a stream are those of the stream.
use Rattle.std.proofs.Common.{◌≡◌, ℕ, zero, suc, ◌+◌, ◌<◌, ◌≤◌, Bool, true, false, not, ◌&&◌, ◌||◌, ◌==◌, cond, nat_lt, nat_le, List, [], ◌∷◌, ◌++◌, length, map, take, inl, inr, refl, sym, ap, ◌∙◌, arith, length-append}
use Rattle.std.specs.List.{list_any, flat_map}
use Rattle.std.proofs.lemmas.Bool.{cases_Bool, or_parts, or_from, lt-ltb, ltb-true, ltb-false, le-leb}
use Rattle.std.proofs.lemmas.List.{map-append, nil_from_length, take_all, take-append-le}
use Rattle.std.proofs.lemmas.List.Folds.{list_any-append}
use Rattle.iso2709_frame.specs.declared.cut.Cut.{Cut}
use Rattle.iso2709_frame.specs.declared.cut.Cut.TheVariants.{Whole, TooLong, Truncated}
use Rattle.iso2709_frame.specs.Frames.{is_terminator, first_piece, later_pieces, skip_breaks, cut_of, cut_piece, frames, IsWhole}
use Rattle.iso2709_frame.proofs.FrameLaws.{IsOpen, list_any-skip_breaks, skip_breaks-push, cut_of-some}
use Rattle.iso2709_frame.proofs.PieceLaws.{first_piece-all, first_piece-ended}
use Rattle.marc_fields.specs.Rows.{ends_in_only}
use Rattle.marc_rules.proofs.CheckLaws.{whole-IsFrame}
use Rattle.union_explain.specs.Broken.{is_whole, cut_at}
use Rattle.union_explain.specs.Located.{Located, frame_at, located, located_piece, located_later}

and_false : (t : Bool) → (t && false) ≡ false
and_false true = refl
and_false false = refl

open-take : (n : ℕ) (text : List ℕ) → IsOpen text → IsOpen (take n text)
open-take zero text h = refl
open-take (suc n) [] h = refl
open-take (suc n) (b ∷ text) h =
    let both = or_parts (is_terminator b) (list_any is_terminator text) h in
    or_from (is_terminator b) (list_any is_terminator (take n text)) both.0 (open-take n text both.1)

-- what has no terminator does not end in one
ends-open : (text : List ℕ) → IsOpen text → ends_in_only 0x1D text ≡ false
ends-open [] h = refl
ends-open (b ∷ []) h = (or_parts (is_terminator b) false h).0
ends-open (b ∷ c ∷ text) h =
    let both = or_parts (is_terminator b) (list_any is_terminator (c ∷ text)) h in
    ap (λ t. not (b == 0x1D) && t) (ends-open (c ∷ text) both.1) ∙ and_false (not (b == 0x1D))

is_whole-open : (text : List ℕ) → IsOpen text → is_whole text ≡ false
is_whole-open text h = ap (λ t. nat_le (length text) 99999 && t) (ends-open text h) ∙ and_false (nat_le (length text) 99999)

is_whole-ended : (a : List ℕ) → IsOpen a → length (a ++ 29 ∷ []) ≤ 99999 → is_whole (a ++ 29 ∷ []) ≡ true
is_whole-ended a h fits =
    let whole : IsWhole (a ++ 29 ∷ []) = record { size = fits; front = a; open_front = h; ended = refl } in
    let frame = whole-IsFrame (a ++ 29 ∷ []) whole in
    ap (λ t. t && ends_in_only 0x1D (a ++ 29 ∷ [])) (le-leb (length (a ++ 29 ∷ [])) 99999 fits) ∙ frame.ends

-- a frame's cut, by whether it is whole and whether it is ended
abbrev shown : Bool → Bool → List ℕ → Cut × List ℕ
shown whole ended bytes = (cond whole Whole (cond ended TooLong Truncated), cond whole bytes [])

located-one : (at : ℕ) (piece : List ℕ) → 0 < length (skip_breaks piece) → map cut_at (located_piece at piece) ≡ cut_at (frame_at at piece) ∷ []
located-one at piece some = ap (λ t. map cut_at (cond t (frame_at at piece ∷ []) [])) (lt-ltb 0 (length (skip_breaks piece)) some)

-- a piece without a terminator
one-open : (at : ℕ) (piece : List ℕ) → IsOpen piece → 0 < length (skip_breaks piece) → map cut_at (located_piece at piece) ≡ cut_piece piece
one-open at piece h some =
    let frame = skip_breaks piece in
    let open_frame : IsOpen frame = list_any-skip_breaks piece ∙ h in
    let bytes = take 99999 frame in
    let whole : is_whole bytes ≡ false = is_whole-open bytes (open-take 99999 frame open_frame) in
    located-one at piece some
    ∙ (ap (λ w. shown w (list_any is_terminator piece) bytes ∷ []) whole
    ∙ (ap (λ e. shown false e bytes ∷ []) h
    ∙ sym (cut_of-some frame some
    ∙ ap (λ t. cond t (cond (nat_lt 99999 (length frame)) (TooLong, []) (Whole, frame)) (Truncated, []) ∷ []) open_frame)))

-- a piece that a terminator ends
one-ended : (at : ℕ) (a : List ℕ) → IsOpen a → map cut_at (located_piece at (a ++ 29 ∷ [])) ≡ cut_piece (a ++ 29 ∷ [])
one-ended at a h =
    let piece = a ++ 29 ∷ [] in
    let frame = skip_breaks piece in
    let front = skip_breaks a in
    let bytes = take 99999 frame in
    let is : frame ≡ front ++ 29 ∷ [] = skip_breaks-push a in
    let open_front : IsOpen front = list_any-skip_breaks a ∙ h in
    let any : list_any is_terminator piece ≡ true = list_any-append is_terminator a (29 ∷ []) ∙ ap (λ t. t || true) h in
    let any_frame : list_any is_terminator frame ≡ true = list_any-skip_breaks piece ∙ any in
    let size : length frame ≡ length front + 1 = ap length is ∙ length-append front (29 ∷ []) in
    let some : 0 < length frame = omega (arith, size) in
    let cut : cut_of frame ≡ cond (nat_lt 99999 (length frame)) (TooLong, []) (Whole, frame) ∷ [] =
    cut_of-some frame some ∙ ap (λ t. cond t (cond (nat_lt 99999 (length frame)) (TooLong, []) (Whole, frame)) (Truncated, []) ∷ []) any_frame in
    elim (cases_Bool (nat_lt 99999 (length frame))) [
      | inl over ↦
          let long : 99999 ≤ length front = omega (arith, size, ltb-true 99999 (length frame) over) in
          let part : bytes ≡ take 99999 front = ap (take 99999) is ∙ take-append-le 99999 front (29 ∷ []) long in
          let whole : is_whole bytes ≡ false = ap is_whole part ∙ is_whole-open (take 99999 front) (open-take 99999 front open_front) in
          located-one at piece some
          ∙ (ap (λ w. shown w (list_any is_terminator piece) bytes ∷ []) whole
          ∙ (ap (λ e. shown false e bytes ∷ []) any ∙ sym (cut ∙ ap (λ t. cond t (TooLong, []) (Whole, frame) ∷ []) over)))
      | inr within ↦
          let fits : length frame ≤ 99999 = ltb-false 99999 (length frame) within in
          let all : bytes ≡ frame = take_all 99999 frame fits in
          let whole : is_whole bytes ≡ true = ap is_whole (all ∙ is) ∙ is_whole-ended front open_front (omega (arith, fits, ap length is)) in
          located-one at piece some
          ∙ (ap (λ w. shown w (list_any is_terminator piece) bytes ∷ []) whole
          ∙ (ap (λ b. (Whole, b) ∷ []) all ∙ sym (cut ∙ ap (λ t. cond t (TooLong, []) (Whole, frame) ∷ []) within)))
    ]

open_at : (at : ℕ) (piece : List ℕ) → IsOpen piece → map cut_at (located_piece at piece) ≡ cut_piece piece
open_at at piece h = elim (cases_Bool (nat_lt 0 (length (skip_breaks piece)))) [
  | inl some ↦ one-open at piece h (ltb-true 0 (length (skip_breaks piece)) some)
  | inr none ↦
      let empty : length (skip_breaks piece) ≡ 0 = omega (arith, ltb-false 0 (length (skip_breaks piece)) none) in
      ap (λ t. map cut_at (cond t (frame_at at piece ∷ []) [])) none ∙ sym (ap cut_of (nil_from_length (skip_breaks piece) empty))
]

piece_at : (at : ℕ) (text : List ℕ) → map cut_at (located_piece at (first_piece text)) ≡ cut_piece (first_piece text)
piece_at at text = elim (cases_Bool (list_any is_terminator text)) [
  | inl ended ↦
      let first = first_piece-ended text ended in
      ap (λ p. map cut_at (located_piece at p)) first.1.1 ∙ (one-ended at first.0 first.1.0 ∙ sym (ap cut_piece first.1.1))
  | inr unended ↦
      let same = first_piece-all text unended in
      ap (λ p. map cut_at (located_piece at p)) same ∙ (open_at at text unended ∙ sym (ap cut_piece same))
]

-- a piece begins after a terminator, and none after another byte
by_byte : (ends : Bool) (one rest : List Located) (piece : List ℕ) (pieces : List (List ℕ)) → map cut_at one ≡ cut_piece piece
    → map cut_at rest ≡ flat_map cut_piece pieces → map cut_at (cond ends (one ++ rest) rest) ≡ flat_map cut_piece (cond ends (piece ∷ pieces) pieces)
by_byte true one rest piece pieces first later =
    map-append cut_at one rest ∙ (ap (λ xs. xs ++ map cut_at rest) first ∙ ap (λ xs. cut_piece piece ++ xs) later)
by_byte false one rest piece pieces first later = later

later_at : (at : ℕ) (text : List ℕ) → map cut_at (located_later at text) ≡ flat_map cut_piece (later_pieces text)
later_at at [] = refl
later_at at (byte ∷ rest) =
    by_byte (is_terminator byte) (located_piece (at + 1) (first_piece rest)) (located_later (at + 1) rest) (first_piece rest) (later_pieces rest)
    (piece_at (at + 1) rest) (later_at (at + 1) rest)

pub located-frames : (stream : List ℕ) → map cut_at (located stream) ≡ frames stream
located-frames stream =
    map-append cut_at (located_piece 0 (first_piece stream)) (located_later 0 stream)
    ∙ (ap (λ xs. xs ++ map cut_at (located_later 0 stream)) (piece_at 0 stream) ∙ ap (λ xs. cut_piece (first_piece stream) ++ xs) (later_at 0 stream))
