use Rattle.std.proofs.Common.{◌≡◌, ◌<◌, ◌-◌, ◌+◌}
use Rattle.std.specs.Prelude.{vec_len}
use Rattle.std.specs.Io.KnownBytes.{Consumes}
use Rattle.union_files.proofs.whole.read_whole.Given as goal

-- what was read so far is kept, and nothing failed
abbrev pub invariant-loop-source : goal.invariant-loop-source
invariant-loop-source g l = record {
  name : g.S.Source.name l.source ≡ g.S.Source.name l.initial.source;
  faults : g.S.Source.faults l.source ≡ g.S.Source.faults l.initial.source;
  taken : Consumes (g.S.Source.left l.initial.source) (g.S.Source.left l.source) l.content.items;
  room : 0 < vec_len l.piece;
}

abbrev pub decreases-loop-source : goal.decreases-loop-source
decreases-loop-source g l = l.limit + 1 - vec_len l.content
