-- The frames whose places are told are those of the text.
use Rattle.std.proofs.Common.{◌≡◌, ℕ, ◌+◌, ◌-◌, Bool, true, false, cond, List, [], ◌∷◌, ◌++◌, length, map, refl, ap, ◌∙◌}
use Rattle.std.specs.List.{flat_map}
use Rattle.std.proofs.lemmas.List.{map-append}
use Rattle.iso2709_frame.specs.declared.cut.Cut.{Cut}
use Rattle.iso2709_frame.specs.Frames.{is_terminator, first_piece, later_pieces, skip_breaks, cut_piece, frames}
use Rattle.union_keys.specs.Placed.{Placed, placed, placed_at, placed_piece, placed_later, cut_at}

cuts_at : (first : ℕ) (text : List ℕ) (cuts : List (Cut × List ℕ)) → map cut_at (map (placed_at first text) cuts) ≡ cuts
cuts_at first text [] = refl
cuts_at first text (cut ∷ rest) = ap (λ xs. cut ∷ xs) (cuts_at first text rest)

piece_at : (at : ℕ) (piece : List ℕ) → map cut_at (placed_piece at piece) ≡ cut_piece piece
piece_at at piece = cuts_at (at + (length piece - length (skip_breaks piece))) (skip_breaks piece) (cut_piece piece)

-- a piece begins after a terminator, and none after another byte
by_byte : (ends : Bool) (one rest : List Placed) (piece : List ℕ) (pieces : List (List ℕ)) → map cut_at one ≡ cut_piece piece
    → map cut_at rest ≡ flat_map cut_piece pieces → map cut_at (cond ends (one ++ rest) rest) ≡ flat_map cut_piece (cond ends (piece ∷ pieces) pieces)
by_byte true one rest piece pieces first later =
    map-append cut_at one rest ∙ (ap (λ xs. xs ++ map cut_at rest) first ∙ ap (λ xs. cut_piece piece ++ xs) later)
by_byte false one rest piece pieces first later = later

later_at : (at : ℕ) (text : List ℕ) → map cut_at (placed_later at text) ≡ flat_map cut_piece (later_pieces text)
later_at at [] = refl
later_at at (byte ∷ rest) =
    by_byte (is_terminator byte) (placed_piece (at + 1) (first_piece rest)) (placed_later (at + 1) rest) (first_piece rest) (later_pieces rest)
    (piece_at (at + 1) (first_piece rest)) (later_at (at + 1) rest)

pub placed-frames : (text : List ℕ) → map cut_at (placed text) ≡ frames text
placed-frames text =
    map-append cut_at (placed_piece 0 (first_piece text)) (placed_later 0 text)
    ∙ (ap (λ xs. xs ++ map cut_at (placed_later 0 text)) (piece_at 0 (first_piece text)) ∙ ap (λ xs. cut_piece (first_piece text) ++ xs) (later_at 0 text))
