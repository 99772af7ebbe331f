use Rattle.std.proofs.Common.{◌≡◌, ◌+◌, ◌++◌, ◌||◌, ℕ, List, Some, drop}
use Rattle.union_io.specs.Counts.{SameCounts}
use Rattle.union_words.specs.Meanings.{libraries_meaning}
use Rattle.union_words.specs.Stops.{StopsAmong, inputs_of}
use Rattle.union_words.specs.declared.status.Status.{Status}
use Rattle.union_words.proofs.StopLaws.{Counts, flow}
use Rattle.union_explain.specs.Runs.{all_rows, table_text, table_rows, are_astray}
use Rattle.union_explain.proofs.run.table_of.Given as goal

-- the rows so far and those of the libraries that are left are all of them
abbrev pub invariant-loop-place : goal.invariant-loop-place
invariant-loop-place g l = record {
  files : g.F.Shelf.files l.shelf ≡ g.F.Shelf.files l.fn.shelf;
  calm : SameCounts (g.F.Shelf.faults l.fn.shelf) (g.F.Shelf.faults l.shelf);
  stops : (status : Status) (after : Counts)
      → StopsAmong status (inputs_of (drop l.place (libraries_meaning l.libraries))) (flow (g.F.Shelf.files l.fn.shelf) (g.F.Shelf.faults l.fn.shelf) after)
      → StopsAmong status (inputs_of (libraries_meaning l.libraries)) (flow (g.F.Shelf.files l.fn.shelf) (g.F.Shelf.faults l.fn.shelf) after);
  text : (contents : List ℕ → List ℕ) → g.F.Shelf.files l.fn.shelf ≡ Some contents
      → l.table.text ++ all_rows l.form l.report contents (drop l.place (libraries_meaning l.libraries))
      ≡ table_text l.form l.report contents (libraries_meaning l.libraries);
  rows : (contents : List ℕ → List ℕ) → g.F.Shelf.files l.fn.shelf ≡ Some contents
      → l.table.rows + table_rows l.report contents (drop l.place (libraries_meaning l.libraries))
      ≡ table_rows l.report contents (libraries_meaning l.libraries);
  astray : (contents : List ℕ → List ℕ) → g.F.Shelf.files l.fn.shelf ≡ Some contents
      → (l.table.astray || are_astray l.report contents (drop l.place (libraries_meaning l.libraries)))
      ≡ are_astray l.report contents (libraries_meaning l.libraries);
}
