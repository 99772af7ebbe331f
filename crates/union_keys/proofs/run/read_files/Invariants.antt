use Rattle.std.proofs.Common.{◌≡◌, ℕ, List, Some, drop}
use Rattle.union_io.specs.Counts.{SameCounts}
use Rattle.union_files.specs.Limits.{AreWithin}
use Rattle.union_words.specs.Meanings.{libraries_meaning}
use Rattle.union_words.specs.Stops.{StopsAmong, inputs_of}
use Rattle.union_words.specs.declared.status.Status.{Status}
use Rattle.union_words.proofs.StopLaws.{Counts, flow}
use Rattle.union_keys.specs.Readings.{Read, ReadsFiles, none_read}
use Rattle.union_keys.proofs.run.read_files.Given as goal

-- what is read of the files that are left goes on with what was read; a run that stops at one of them stops at one of all
abbrev pub invariant-loop-place : goal.invariant-loop-place
invariant-loop-place g l = record {
  files : g.F.Shelf.files l.shelf ≡ g.F.Shelf.files l.fn.shelf;
  calm : SameCounts (g.F.Shelf.faults l.fn.shelf) (g.F.Shelf.faults l.shelf);
  stops : (status : Status) (after : Counts)
      → StopsAmong status (inputs_of (drop l.place (libraries_meaning l.libraries))) (flow (g.F.Shelf.files l.fn.shelf) (g.F.Shelf.faults l.fn.shelf) after)
      → StopsAmong status (inputs_of (libraries_meaning l.libraries)) (flow (g.F.Shelf.files l.fn.shelf) (g.F.Shelf.faults l.fn.shelf) after);
  within : (contents : List ℕ → List ℕ) → g.F.Shelf.files l.fn.shelf ≡ Some contents
      → AreWithin contents (inputs_of (drop l.place (libraries_meaning l.libraries)))
      → AreWithin contents (inputs_of (libraries_meaning l.libraries));
  read : (contents : List ℕ → List ℕ) → g.F.Shelf.files l.fn.shelf ≡ Some contents → (after : Read)
      → ReadsFiles contents (drop l.place (libraries_meaning l.libraries)) l.reading after
      → ReadsFiles contents (libraries_meaning l.libraries) (none_read l.prefer) after;
}
