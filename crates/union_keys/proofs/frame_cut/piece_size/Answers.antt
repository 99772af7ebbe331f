use Rattle.std.proofs.Common.{◌≡◌, ◌+◌, ℕ, ◌<◌, ◌≤◌, List, length, get_or, take, sym, ◌∙◌, ap, arith}
use Rattle.std.proofs.lemmas.Bool.{eqb-true, eq-eqb}
use Rattle.std.proofs.lemmas.List.{length-take-le}
use Rattle.std.proofs.Math.Seq.{take-length}
use Rattle.std.specs.List.{list_any}
use Rattle.iso2709_frame.specs.Frames.{is_terminator}
use Rattle.iso2709_frame.proofs.FrameLaws.{IsOpen}
use Rattle.iso2709_frame.proofs.PieceLaws.{IsOpen-take, first_piece-found, first_piece-all}
use Rattle.union_keys.proofs.frame_cut.piece_size.Goals as goal

pub returns-in-Some-clause-value : goal.returns-in-Some-clause-value
returns-in-Some-clause-value c =
    let found = c.in-Some.ensures in
    let text = c.args.text.now in
    let low : c.in-Some.at ≤ length text = omega (arith, found.0.high) in
    let front : IsOpen (take c.in-Some.at text)
    = IsOpen-take text c.in-Some.at low (λ k lt e. found.0.before k (omega arith) lt (eq-eqb (get_or text k 0) 29 e)) in
    let piece = first_piece-found text c.in-Some.at found.0.high front (eqb-true (get_or text c.in-Some.at 0) 29 found.1) in
    let fits : c.in-Some.at + 1 ≤ length text = omega (arith, found.0.high) in
    sym (length-take-le (c.in-Some.at + 1) text fits) ∙ ap length piece

-- a text in which no terminator was found is open
unfound : (piece : List ℕ) → ((k : ℕ) → 0 ≤ k → k < length piece → get_or piece k 0 ≡ 29 → ⊥) → IsOpen piece
unfound piece none =
    let all : length piece ≤ length piece = omega arith in
    ap (λ p. list_any is_terminator p) (sym (take-length piece))
    ∙ IsOpen-take piece (length piece) all (λ k lt e. let low : 0 ≤ k = omega arith in none k low lt e)

pub returns-in-None-clause-value : goal.returns-in-None-clause-value
returns-in-None-clause-value c =
    sym (ap length (first_piece-all c.args.text.now (unfound c.args.text.now (λ k low lt e. c.in-None.ensures k low lt (eq-eqb (get_or c.args.text.now k 0) 29 e)))))
