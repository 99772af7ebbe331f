use Rattle.std.proofs.Common.{◌≡◌}
use Rattle.std.specs.Prelude.{fold}
use Rattle.union_keys.specs.Groups.{put_standing, table_of}
use Rattle.union_keys.proofs.groups.table_of.Given as goal

-- what is left is put over what is there
abbrev pub invariant-loop-standing : goal.invariant-loop-standing
invariant-loop-standing l = fold put_standing l.table.entries l.standing-iterator.rest.items ≡ table_of l.fn.standings.items
