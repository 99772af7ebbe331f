use Rattle.std.proofs.Common.{◌≡◌, ◌≤◌, ◌+◌, ◌*◌, ◌++◌, List, []}
use Rattle.catalogue_core.specs.Histories.{current}
use Rattle.catalogue_editions.specs.declared.batch.Batch.{Batch}
use Rattle.library_batches.specs.Outcomes.{AreCounted, counted, found_in}
use Rattle.library_stream.specs.Streaming.{most_ahead}
use Rattle.library_stream.specs.declared.frame_reader.TheConstants.{LARGEST_SOURCE}
use Rattle.union_script.specs.Notices.{TellsTurns}
use Rattle.union_script.specs.Texts.{turns_of}
use Rattle.union_files.proofs.BatchLaws.{Hands}
use Rattle.union_script.proofs.loading.apply_batches.Given as goal

-- the batches that were handed out are applied and counted, and nothing failed
abbrev pub invariant-loop-notices : goal.invariant-loop-notices
invariant-loop-notices g l = record {
  name : g.S.Source.name l.source ≡ g.S.Source.name l.initial.source;
  faults : g.S.Source.faults l.source ≡ g.S.Source.faults l.initial.source;
  free : l.reader.prefer ≡ [];
  library : l.reader.library ≡ l.initial.reader.library;
  batches : List Batch;
  hands : Hands l.initial.reader.library LARGEST_SOURCE (g.S.Source.left l.initial.source) l.reader (g.S.Source.left l.source) batches;
  told : l.union.told ≡ l.initial.union.told;
  tells : TellsTurns l.initial.union.told l.initial.union.catalogue.history batches l.notices.items;
  applied : l.union.catalogue.history ≡ l.initial.union.catalogue.history ++ turns_of batches;
  found : AreCounted (found_in (current l.initial.union.catalogue.history) batches) l.counts;
  few : counted l.counts + 256 * most_ahead l.reader.stream ≤ 256 * (LARGEST_SOURCE + 1);
}

abbrev pub decreases-loop-notices : goal.decreases-loop-notices
decreases-loop-notices g l = most_ahead l.reader.stream
