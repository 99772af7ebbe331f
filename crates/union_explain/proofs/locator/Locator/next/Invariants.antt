use Rattle.std.proofs.Common.{◌≡◌, ◌-◌, ◌≤◌}
use Rattle.library_batches.specs.Reading.{most_bytes}
use Rattle.union_explain.specs.Readings.{ahead, GoesOn}
use Rattle.union_explain.proofs.LocateLaws.{Gathers}
use Rattle.union_explain.proofs.locator.Locator.next.Given as goal

-- the bytes that were read since the call are those of the frame
abbrev pub invariant-loop-self : goal.invariant-loop-self
invariant-loop-self g l = record {
  name : g.S.Source.name l.source ≡ g.S.Source.name l.fn.source;
  faults : g.S.Source.faults l.source ≡ g.S.Source.faults l.fn.source;
  gathers : Gathers (ahead l.fn.self.unread (g.S.Source.left l.fn.source)) (ahead l.self-inside.reader.unread (g.S.Source.left l.source))
      l.fn.self.at l.self-inside.reader.at l.self-inside.frame;
  goes : GoesOn l.fn.self.at (ahead l.fn.self.unread (g.S.Source.left l.fn.source))
      l.self-inside.reader.at (ahead l.self-inside.reader.unread (g.S.Source.left l.source));
  within : l.self-inside.reader.at ≤ most_bytes;
}

abbrev pub decreases-loop-self : goal.decreases-loop-self
decreases-loop-self g l = most_bytes - l.self-inside.reader.at
