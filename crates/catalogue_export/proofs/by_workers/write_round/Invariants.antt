use Rattle.std.proofs.Common.{Bor, List, map}
use Rattle.catalogue_editions.specs.declared.edition.Edition.{Edition}
use Rattle.catalogue_export.specs.Sources.{left_of_one}
use Rattle.catalogue_export.proofs.ExportLaws.{IsExportedTo}
use Rattle.catalogue_export.specs.Parts.{IsPartOf}
use Rattle.catalogue_export.specs.declared.by_workers.Part.{Part}
use Rattle.catalogue_export.proofs.ShareLaws.{AreShares}
use Rattle.catalogue_export.proofs.by_workers.write_round.Given as goal

-- all but the rest was exported, and the parts to come are those of the rest
abbrev pub invariant-loop-made : goal.invariant-loop-made
invariant-loop-made g l =
    (rest : List (Bor Edition)) × AreShares l.size
    (λ (es : List (Bor Edition)) (part : Part). IsPartOf (g.F.ExportForm.shown l.listing.sources.now) (left_of_one l.listing.sources.now) (map (λ (e : Bor Edition). e.now) es) part) rest l.made-iterator.rest.items
    × IsExportedTo (g.F.ExportForm.shown l.listing.sources.now) (left_of_one l.listing.sources.now) l.listing.editions.now rest
    (record { old = g.O.Sink.written l.initial.out; new = g.O.Sink.written l.out; before = g.O.Sink.faults l.initial.out; after = g.O.Sink.faults l.out })
    l.initial.left.items l.left.items
