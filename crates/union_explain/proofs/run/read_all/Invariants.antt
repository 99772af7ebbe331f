use Rattle.std.proofs.Common.{◌≡◌, ◌-◌, ◌≤◌, length}
use Rattle.std.specs.Io.KnownBytes.{Consumes}
use Rattle.library_batches.specs.Reading.{most_bytes}
use Rattle.union_explain.specs.Readings.{ahead, GoesOn}
use Rattle.union_explain.proofs.run.read_all.Given as goal

abbrev pub invariant-loop-text : goal.invariant-loop-text
invariant-loop-text g l = record {
  name : g.S.Source.name l.source ≡ g.S.Source.name l.fn.source;
  read : Consumes (g.S.Source.left l.fn.source) (ahead l.reader.unread (g.S.Source.left l.source)) l.text.items;
  faults : g.S.Source.faults l.source ≡ g.S.Source.faults l.fn.source;
  goes : GoesOn 0 (g.S.Source.left l.fn.source) l.reader.at (ahead l.reader.unread (g.S.Source.left l.source));
  long : length l.text.items ≡ l.reader.at;
  within : l.reader.at ≤ most_bytes;
}

abbrev pub decreases-loop-text : goal.decreases-loop-text
decreases-loop-text g l = most_bytes - l.reader.at
