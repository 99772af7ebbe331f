use Rattle.std.proofs.Common.{◌≡◌, ◌+◌, eqb, drop}
use Rattle.std.specs.List.{position_or_len}
use Rattle.isbn_keys.proofs.text.place_of.Given as goal

abbrev pub invariant-loop-place : goal.invariant-loop-place
invariant-loop-place l = l.place + position_or_len (λ b. eqb b l.byte) (drop l.place l.text) ≡ position_or_len (λ b. eqb b l.byte) l.text
