use Rattle.std.proofs.Common.{◌≡◌, ◌≤◌, ◌+◌, ◌*◌, length}
use Rattle.std.specs.Prelude.{All, vec_capacity, vec_len}
use Rattle.library_stream.specs.Streaming.{most_ahead}
use Rattle.library_batches.specs.Batches.{block_size}
use Rattle.library_batches.specs.Works.{AreCut, AreNumbered, frames_of}
use Rattle.library_batches.proofs.working.cut_works.Given as goal

-- the blocks so far were cut, and nothing failed
abbrev pub invariant-loop-block : goal.invariant-loop-block
invariant-loop-block g l = record {
  name : g.S.Source.name l.source ≡ g.S.Source.name l.initial.source;
  faults : g.S.Source.faults l.source ≡ g.S.Source.faults l.initial.source;
  cut : AreCut l.works.items l.initial.reader (g.S.Source.left l.initial.source) l.reader (g.S.Source.left l.source);
  numbered : AreNumbered l.initial.first l.works.items;
  short : All (λ work. length work.frames.items ≤ block_size) l.works.items;
  place : l.next ≡ l.initial.first + length (frames_of l.works.items);
  full : length (frames_of l.works.items) ≡ 256 * l._block;
  fewer : most_ahead l.reader + length (frames_of l.works.items) ≤ most_ahead l.initial.reader;
  capacity : vec_capacity l.works ≡ vec_capacity l.initial.works;
  count : vec_len l.works ≡ l._block;
}
