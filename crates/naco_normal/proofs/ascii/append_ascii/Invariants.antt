use Rattle.std.proofs.Common.{◌≡◌, ◌≤◌, ◌+◌, ◌-◌, true, length, drop, vec_len, vec_capacity}
use Rattle.naco_normal.proofs.AsciiLemmas.{ascii_letters}
use Rattle.naco_normal.specs.Shown.{keeps_first}
use Rattle.naco_normal.specs.Words.{gap_room}
use Rattle.naco_normal.proofs.WordsLemmas.{read_on}
use Rattle.naco_normal.proofs.ascii.append_ascii.Given as goal

-- what is left to read, and the room that it needs
abbrev pub invariant-loop-place : goal.invariant-loop-place
invariant-loop-place l = record {
  form : read_on l.form.items l.gap l.awaiting (ascii_letters (drop l.place l.text)) ≡ read_on l.fn.form.items true (keeps_first l.fn.comma) (ascii_letters l.text);
  room : vec_len l.form + gap_room l.gap + (length l.text - l.place) ≤ vec_capacity l.form;
}
