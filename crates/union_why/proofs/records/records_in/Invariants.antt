use Rattle.std.proofs.Common.{◌≡◌, ◌++◌}
use Rattle.std.specs.Map.{values_of}
use Rattle.union_keys.specs.Lines.{editions_in}
use Rattle.union_why.proofs.records.records_in.Given as goal

abbrev pub invariant-loop-standing : goal.invariant-loop-standing
invariant-loop-standing l = l.records.items ++ editions_in l.standing-iterator ≡ editions_in (values_of l.fn.table.entries)
