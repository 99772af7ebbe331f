use Rattle.std.proofs.Common.{◌≡◌}
use Rattle.snapshot_desk.specs.Counting.{numbers_of}
use Rattle.snapshot_desk.proofs.board.post.Given as goal

-- the entry that is still to be posted is of the board's log
abbrev pub invariant-loop : goal.invariant-loop
invariant-loop g l = (goal.iterator-loop g).can_next l.iterator' × (goal.iterator-loop g).is_finite l.iterator'
    × (l.board.tag ≡ numbers_of l.next.reached.book)
