use Rattle.std.proofs.Common.{◌≡◌, ℕ, List, length, Some}
use Rattle.union_explain.specs.Located.{located, located_ahead}
use Rattle.union_explain.specs.Readings.{ahead, GoesOn}
use Rattle.union_explain.specs.Reports.{IsRising}
use Rattle.union_explain.proofs.RowLaws.{Remains}
use Rattle.union_explain.proofs.explain.add_rows.Given as goal

-- the rows so far and those that are left are all of them
abbrev pub invariant-loop-told : goal.invariant-loop-told
invariant-loop-told g l = record {
  name : g.S.Source.name l.source ≡ g.S.Source.name l.fn.source;
  faults : g.S.Source.faults l.source ≡ g.S.Source.faults l.fn.source;
  goes : GoesOn 0 (g.S.Source.left l.fn.source) l.locator.at (ahead l.locator.unread (g.S.Source.left l.source));
  rising : IsRising l.passed l.rest;
  remains : (bytes : List ℕ) → g.S.Source.left l.fn.source ≡ Some bytes
      → Remains l.form l.library (located bytes) l.refused l.rest l.passed
      (located_ahead l.locator.at (ahead l.locator.unread (g.S.Source.left l.source)))
      l.fn.table.text l.table.text l.fn.table.rows l.table.rows l.fn.table.astray l.table.astray;
}

abbrev pub decreases-loop-told : goal.decreases-loop-told
decreases-loop-told g l = length l.rest
