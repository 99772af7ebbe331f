use Rattle.std.proofs.Common.{◌≡◌, ◌+◌, ◌-◌, ◌*◌, length}
use Rattle.marc_fields.specs.Rows.{least_where_not}
use Rattle.marc_fields.specs.Rules.{entry_texts, has_digits}
use Rattle.marc_fields.proofs.directory.first_undigited.Given as goal

-- the rest of the texts decides
abbrev pub invariant-loop-i : goal.invariant-loop-i
invariant-loop-i l = record {
  size : length l.rest ≡ 12 * (l.count - l.i);
  row : least_where_not has_digits (l.before + 1) (entry_texts l.count l.directory) ≡ least_where_not has_digits (l.before + l.i + 1) (entry_texts (l.count - l.i) l.rest);
}
