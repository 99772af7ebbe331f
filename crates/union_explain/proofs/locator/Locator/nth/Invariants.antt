use Rattle.std.proofs.Common.{◌≡◌, List}
use Rattle.std.specs.Prelude.{Option}
use Rattle.union_explain.specs.Located.{Located, located_ahead}
use Rattle.union_explain.specs.Readings.{ahead, Finds, GoesOn}
use Rattle.union_explain.proofs.locator.Locator.nth.Given as goal

-- what is found after as many as are left is what the call looks for
abbrev pub invariant-loop-left : goal.invariant-loop-left
invariant-loop-left g l = record {
  name : g.S.Source.name l.source ≡ g.S.Source.name l.fn.source;
  faults : g.S.Source.faults l.source ≡ g.S.Source.faults l.fn.source;
  goes : GoesOn l.fn.self.at (ahead l.fn.self.unread (g.S.Source.left l.fn.source)) l.self.at (ahead l.self.unread (g.S.Source.left l.source));
  finds : (after : Option (List Located)) (answer : Option Located)
      → Finds l.left (located_ahead l.self.at (ahead l.self.unread (g.S.Source.left l.source))) after answer
      → Finds l.fn.count (located_ahead l.fn.self.at (ahead l.fn.self.unread (g.S.Source.left l.fn.source))) after answer;
}

abbrev pub decreases-loop-left : goal.decreases-loop-left
decreases-loop-left g l = l.left
