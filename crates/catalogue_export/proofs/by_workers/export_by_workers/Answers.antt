use Rattle.std.proofs.Common.{◌++◌, Bor, map, refl, ap, subst, ◌∙◌, ◌≡◌}
use Rattle.std.specs.Prelude.{OnOk}
use Rattle.std.specs.List.{flat_map}
use Rattle.catalogue_editions.specs.declared.edition.Edition.{Edition}
use Rattle.catalogue_export.specs.Sources.{left_of, plain}
use Rattle.catalogue_export.specs.Writing.{HasWritten, Output}
use Rattle.catalogue_export.proofs.WritingLaws.{none-written}
use Rattle.catalogue_export.proofs.by_workers.export_by_workers.Goals as goal

pub returns-in-Ok : goal.returns-in-Ok
returns-in-Ok g c =
    let editions = c.editions.ensures in
    let same = ap (map (λ (e : Bor Edition). e.now)) c.as_slice.ensures.value ∙ c.in-Ok.ensures.2 in
    let out : Output = record { old = g.O.Sink.written c.args.out.now; new = g.O.Sink.written c.write_listing.new.out; before = g.O.Sink.faults c.args.out.now; after = g.O.Sink.faults c.write_listing.new.out } in (
      c.in-Ok.ensures.0,
      c.in-Ok.ensures.1,
      subst (λ all. HasWritten (flat_map (g.F.ExportForm.shown (plain c.args.catalogue.now.names)) all) out c.write_listing.result) same (rw (c.plain-sources.ensures, c.names.ensures) at c.write_listing.ensures.written),
      subst (λ all. OnOk c.write_listing.result (c.write_listing.new.left.items ≡ c.args.left.now.items ++ left_of (plain c.args.catalogue.now.names) all)) same (rw (c.plain-sources.ensures, c.names.ensures) at c.write_listing.ensures.gained),
      c.write_listing.ensures.unchanged,
    )

pub returns-in-Err : goal.returns-in-Err
returns-in-Err g c = (
  c.in-Err.ensures.0,
  c.in-Err.ensures.1,
  none-written (g.O.Sink.written c.args.out.now) (g.O.Sink.faults c.args.out.now) (flat_map (g.F.ExportForm.shown (plain c.args.catalogue.now.names)) c.in-Err.ensures.0),
  tt,
  refl,
)
