use Rattle.change_notices.proofs.MarkLaws.{Marks}
use Rattle.change_notices.proofs.marking.marked.Given as goal

-- the closed editions so far are marked
abbrev pub invariant-loop-at : goal.invariant-loop-at
invariant-loop-at l = Marks l.held l.closed l.at l.marks.items
