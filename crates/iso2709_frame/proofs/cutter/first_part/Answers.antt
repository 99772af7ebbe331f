use Rattle.std.proofs.Common.{◌≡◌, ℕ, ◌<◌, ◌≤◌, List, length, get_or, take, sym, ◌∙◌, ap, arith}
use Rattle.std.proofs.lemmas.Bool.{eqb-true, eq-eqb}
use Rattle.std.proofs.Math.Seq.{take-length}
use Rattle.std.specs.List.{list_any}
use Rattle.iso2709_frame.specs.Frames.{is_terminator}
use Rattle.iso2709_frame.proofs.FrameLaws.{IsOpen}
use Rattle.iso2709_frame.proofs.PieceLaws.{IsOpen-take, first_piece-found, first_piece-all}
use Rattle.iso2709_frame.proofs.cutter.first_part.Goals as goal

pub returns-in-Some-clause-part : goal.returns-in-Some-clause-part
returns-in-Some-clause-part c =
    let found = c.in-Some.ensures in
    let piece = c.args.piece.now in
    let low : c.in-Some.at ≤ length piece = omega (arith, found.0.high) in
    let front : IsOpen (take c.in-Some.at piece)
    = IsOpen-take piece c.in-Some.at low (λ k lt e. found.0.before k (omega arith) lt (eq-eqb (get_or piece k 0) 29 e)) in
    c.split_at.ensures.front ∙ first_piece-found piece c.in-Some.at found.0.high front (eqb-true (get_or piece c.in-Some.at 0) 29 found.1)

-- a piece in which no terminator was found is open
unfound : (piece : List ℕ) → ((k : ℕ) → 0 ≤ k → k < length piece → get_or piece k 0 ≡ 29 → ⊥) → IsOpen piece
unfound piece none =
    let all : length piece ≤ length piece = omega arith in
    ap (λ p. list_any is_terminator p) (sym (take-length piece))
    ∙ IsOpen-take piece (length piece) all (λ k lt e. let low : 0 ≤ k = omega arith in none k low lt e)

pub returns-in-None-clause-part : goal.returns-in-None-clause-part
returns-in-None-clause-part c =
    sym (first_piece-all c.args.piece.now (unfound c.args.piece.now (λ k low lt e. c.in-None.ensures k low lt (eq-eqb (get_or c.args.piece.now k 0) 29 e))))

pub returns-in-None-clause-ended : goal.returns-in-None-clause-ended
returns-in-None-clause-ended c =
    sym (unfound c.args.piece.now (λ k low lt e. c.in-None.ensures k low lt (eq-eqb (get_or c.args.piece.now k 0) 29 e)))
