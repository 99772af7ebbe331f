use Rattle.std.proofs.Common.{◌≡◌, ◌-◌, ◌&&◌, not, drop}
use Rattle.marc_fields.specs.Shapes.{are_coded}
use Rattle.marc_fields.proofs.shape.have_codes.Given as goal

-- no delimiter so far lacks a code, and the bytes from the one before on decide
abbrev pub invariant-loop-at : goal.invariant-loop-at
invariant-loop-at l = are_coded l.bytes ≡ (not l.lacking && are_coded (drop (l.at - 1) l.bytes))
