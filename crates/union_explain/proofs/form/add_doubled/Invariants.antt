use Rattle.std.proofs.Common.{◌≡◌, ◌++◌, length}
use Rattle.union_explain.specs.Rows.{doubled}
use Rattle.union_explain.proofs.form.add_doubled.Given as goal

-- what was added, and what is left to add, is all of it
abbrev pub invariant-loop-rest : goal.invariant-loop-rest
invariant-loop-rest l = l.text.items ++ doubled l.rest ≡ l.fn.text.items ++ doubled l.column

abbrev pub decreases-loop-rest : goal.decreases-loop-rest
decreases-loop-rest l = length l.rest
