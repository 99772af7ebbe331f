use Rattle.std.proofs.Common.{◌≡◌, ◌+◌, drop}
use Rattle.std.specs.List.{position_or_len}
use Rattle.isbn_keys.specs.Text.{ends_number}
use Rattle.isbn_keys.proofs.text.number_end.Given as goal

abbrev pub invariant-loop-place : goal.invariant-loop-place
invariant-loop-place l = l.place + position_or_len ends_number (drop l.place l.text) ≡ position_or_len ends_number l.text
