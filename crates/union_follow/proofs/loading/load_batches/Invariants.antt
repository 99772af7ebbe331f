use Rattle.std.proofs.Common.{◌≡◌, ◌≤◌, ◌+◌, ◌*◌, ◌++◌, List, []}
use Rattle.catalogue_editions.specs.declared.batch.Batch.{Batch}
use Rattle.library_batches.specs.Outcomes.{AreCounted, counted}
use Rattle.library_stream.specs.Streaming.{most_ahead}
use Rattle.library_stream.specs.declared.frame_reader.TheConstants.{LARGEST_SOURCE}
use Rattle.catalogue_core.specs.Entries.{entries_of}
use Rattle.library_batches.specs.Tallies.{found as found_under}
use Rattle.union_files.proofs.BatchLaws.{Hands}
use Rattle.union_follow.specs.Turning.{IsShown, turns_as}
use Rattle.union_follow.proofs.loading.load_batches.Given as goal

-- the batches that were handed out are applied, published and counted, and nothing failed
abbrev pub invariant-loop-batch : goal.invariant-loop-batch
invariant-loop-batch g l = record {
  name : g.S.Source.name l.source ≡ g.S.Source.name l.initial.source;
  faults : g.S.Source.faults l.source ≡ g.S.Source.faults l.initial.source;
  free : l.reader.prefer ≡ [];
  library : l.reader.library ≡ l.initial.reader.library;
  book : l.load.publisher.book ≡ l.initial.load.publisher.book;
  reports : l.load.reports ≡ l.initial.load.reports;
  shown : IsShown l.load.catalogue.history l.load.publisher;
  batches : List Batch;
  hands : Hands l.initial.reader.library LARGEST_SOURCE (g.S.Source.left l.initial.source) l.reader (g.S.Source.left l.source) batches;
  applied : l.load.catalogue.history ≡ l.initial.load.catalogue.history ++ turns_as l.pass batches;
  found : AreCounted (found_under (entries_of l.load.catalogue.history) l.pass) l.counts;
  few : counted l.counts + 256 * most_ahead l.reader.stream ≤ 256 * (LARGEST_SOURCE + 1);
}

abbrev pub decreases-loop-batch : goal.decreases-loop-batch
decreases-loop-batch g l = most_ahead l.reader.stream
