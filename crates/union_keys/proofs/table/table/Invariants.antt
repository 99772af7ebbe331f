use Rattle.std.proofs.Common.{◌≡◌, ◌++◌, drop}
use Rattle.union_keys.specs.Tables.{keys_from, table}
use Rattle.union_keys.proofs.table.table.Given as goal

-- the rows of the records that are left go on with those that were added
abbrev pub invariant-loop-place : goal.invariant-loop-place
invariant-loop-place l = l.text.items ++ keys_from l.place (drop l.place l.standings) ≡ table l.standings
