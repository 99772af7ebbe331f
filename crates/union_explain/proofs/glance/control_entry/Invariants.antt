use Rattle.std.proofs.Common.{◌≡◌, ◌≤◌, ◌*◌, length, find}
use Rattle.marc_fields.specs.Rules.{entry_texts}
use Rattle.union_explain.specs.Glances.{is_control_entry}
use Rattle.union_explain.proofs.glance.control_entry.Given as goal

-- none of the entries so far is one of field 001
abbrev pub invariant-loop-left : goal.invariant-loop-left
invariant-loop-left l = record {
  found : find is_control_entry (entry_texts l.left l.rest) ≡ find is_control_entry (entry_texts l.count l.directory);
  room : 12 * l.left ≤ length l.rest;
}

abbrev pub decreases-loop-left : goal.decreases-loop-left
decreases-loop-left l = l.left
