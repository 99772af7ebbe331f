use Rattle.std.proofs.Common.{◌≡◌, ◌+◌, ◌≤◌, ℕ, List, ◌++◌, length}
use Rattle.union_json.specs.Converting.{HasTaken}
use Rattle.union_json.proofs.converter.Converter.take.Given as goal

-- a prefix of the piece was taken
abbrev pub invariant-loop-at : goal.invariant-loop-at
invariant-loop-at l = record {
  front : List ℕ;
  split : l.piece ≡ front ++ l.rest;
  taken : (text : List ℕ) → HasTaken text l.initial.self → HasTaken (text ++ front) l.self;
  few : l.self.findings.lines + length l.rest ≤ l.initial.self.findings.lines + length l.piece;
}

abbrev pub decreases-loop-at : goal.decreases-loop-at
decreases-loop-at l = length l.rest
