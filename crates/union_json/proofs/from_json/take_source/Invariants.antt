use Rattle.std.proofs.Common.{◌≡◌, ◌<◌, ◌≤◌, ◌+◌, ℕ, List, [], length}
use Rattle.std.specs.Prelude.{vec_len}
use Rattle.std.specs.Io.KnownBytes.{Consumes}
use Rattle.union_json.specs.Converting.{HasTaken}
use Rattle.library_stream.specs.declared.frame_reader.TheConstants.{LARGEST_SOURCE}
use Rattle.union_json.proofs.from_json.take_source.Given as goal

-- what was read so far was taken, and nothing failed
abbrev pub invariant-pieces : goal.invariant-pieces
invariant-pieces g l = record {
  name : g.S.Source.name l.source ≡ g.S.Source.name l.initial.source;
  faults : g.S.Source.faults l.source ≡ g.S.Source.faults l.initial.source;
  front : List ℕ;
  given : Consumes (g.S.Source.left l.initial.source) (g.S.Source.left l.source) front;
  size : length front + l.room ≡ LARGEST_SOURCE;
  taken : HasTaken [] l.initial.converter → HasTaken front l.converter;
  few : l.converter.findings.lines ≤ length front;
  place : 0 < vec_len l.piece;
}

abbrev pub decreases-pieces : goal.decreases-pieces
decreases-pieces g l = l.room
