use Rattle.std.proofs.Common.{◌≡◌, ◌≤◌, ◌+◌, List, length}
use Rattle.library_stream.specs.Streaming.{most_ahead}
use Rattle.library_stream.specs.Answering.{Takes}
use Rattle.library_batches.specs.Streams.{Frame}
use Rattle.library_batches.specs.Blocks.{IsChecked}
use Rattle.library_batches.specs.Reading.{most_bytes}
use Rattle.library_batches.proofs.batch_reader.BatchReader.read_block.Given as goal

-- the frames so far were handed out and checked, and nothing failed
abbrev pub invariant-loop-frame : goal.invariant-loop-frame
invariant-loop-frame g l = record {
  name : g.S.Source.name l.source ≡ g.S.Source.name l.initial.source;
  faults : g.S.Source.faults l.source ≡ g.S.Source.faults l.initial.source;
  prefer : l.self-inside.prefer ≡ l.initial.self-inside.prefer;
  library : l.self-inside.library ≡ l.initial.self-inside.library;
  taken : List Frame;
  takes : Takes l.initial.self-inside.reader (g.S.Source.left l.initial.source) l.self-inside.reader (g.S.Source.left l.source) taken;
  count : length taken ≡ l._frame;
  checked : IsChecked l.initial.self-inside.prefer l.initial.self-inside.library (l.initial.self-inside.frames + 1) taken l.ops.items l.initial.self-inside.refused.items
      l.self-inside.refused.items;
  frames : l.self-inside.frames ≡ l.initial.self-inside.frames + length taken;
  fewer : most_ahead l.self-inside.reader + length taken ≤ most_ahead l.initial.self-inside.reader;
  within : l.self-inside.frames + most_ahead l.self-inside.reader ≤ most_bytes + 1;
}
