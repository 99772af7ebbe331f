use Rattle.std.proofs.Common.{◌≡◌, length, take}
use Rattle.std.specs.Prelude.{slice_get}
use Rattle.std.specs.List.{flat_map}
use Rattle.std.specs.Option.{option_copied}
use Rattle.catalogue_export.specs.WorkLists.{work_text}
use Rattle.catalogue_export.specs.Writing.{IsWrittenTo}
use Rattle.work_clusters.specs.Works.{AreWorks, keys_of}
use Rattle.catalogue_export.proofs.works_text.write_works.Given as goal

-- the works before this place were written, or are pending
abbrev pub invariant-loop : goal.invariant-loop
invariant-loop g l = record {
  ordered : AreWorks l.works.works;
  end : l.end ≡ length l.works.works;
  next : option_copied l.next ≡ slice_get (keys_of l.works.works) l.counter;
  moved : IsWrittenTo (flat_map work_text (take l.counter l.works.works)) l.pending.items (g.O.Sink.written l.initial.out) (g.O.Sink.written l.out);
  calm : g.O.Sink.faults l.out ≡ g.O.Sink.faults l.initial.out;
}
