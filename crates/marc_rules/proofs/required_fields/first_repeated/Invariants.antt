use Rattle.std.proofs.Common.{◌≡◌, ◌+◌, [], take, drop, length}
use Rattle.marc_rules.specs.RequiredFields.{repeated_from}
use Rattle.marc_rules.proofs.RequiredLaws.{AreMarks}
use Rattle.marc_rules.proofs.required_fields.first_repeated.Given as goal

-- the classes of the entries so far are seen, and the others decide
abbrev pub invariant-loop-i : goal.invariant-loop-i
invariant-loop-i l = record {
  size : length l.seen ≡ 6;
  row : repeated_from [] 1 l.entries ≡ repeated_from (take l.i l.entries) (l.i + 1) (drop l.i l.entries);
  seen : AreMarks l.seen (take l.i l.entries);
}
