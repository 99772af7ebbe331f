use Rattle.std.proofs.Common.{◌≡◌, ◌+◌, eqb, drop}
use Rattle.std.specs.List.{prefix_len}
use Rattle.isbn_keys.proofs.text.count_leading.Given as goal

abbrev pub invariant-loop-place : goal.invariant-loop-place
invariant-loop-place l = l.place + prefix_len (λ b. eqb b l.byte) (drop l.place l.text) ≡ prefix_len (λ b. eqb b l.byte) l.text
