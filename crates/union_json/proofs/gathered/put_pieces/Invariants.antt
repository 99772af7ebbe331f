use Rattle.std.proofs.Common.{◌≡◌, take}
use Rattle.std.specs.Io.KnownBytes.{Appends}
use Rattle.std.specs.List.{flat_map}
use Rattle.union_json.proofs.gathered.put_pieces.Given as goal

-- the pieces before this one were written, and nothing failed
abbrev pub invariant-loop-piece : goal.invariant-loop-piece
invariant-loop-piece g l = record {
  written : Appends (g.O.Sink.written l.initial.out) (g.O.Sink.written l.out) (flat_map (λ piece. piece.items) (take l.piece-index l.pieces));
  calm : g.O.Sink.faults l.out ≡ g.O.Sink.faults l.initial.out;
}
