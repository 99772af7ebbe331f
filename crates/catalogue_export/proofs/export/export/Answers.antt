use Rattle.std.proofs.Common.{◌++◌, Bor, map, refl, ap, subst, ◌∙◌, ◌≡◌}
use Rattle.std.specs.Prelude.{OnOk}
use Rattle.catalogue_editions.specs.declared.edition.Edition.{Edition}
use Rattle.catalogue_export.specs.Editions.{export_text}
use Rattle.catalogue_export.specs.Sources.{left_of, plain}
use Rattle.catalogue_export.specs.Writing.{HasWritten, Output}
use Rattle.catalogue_export.proofs.WritingLaws.{none-written}
use Rattle.catalogue_export.proofs.export.export.Goals as goal

pub returns-in-Ok : goal.returns-in-Ok
returns-in-Ok g c =
    let editions = c.editions.ensures in
    let same = ap (map (λ (e : Bor Edition). e.now)) c.as_slice.ensures.value ∙ c.in-Ok.ensures.2 in
    let out : Output = record { old = g.O.Sink.written c.args.out.now; new = g.O.Sink.written c.write_listed.new.out; before = g.O.Sink.faults c.args.out.now; after = g.O.Sink.faults c.write_listed.new.out } in (
      c.in-Ok.ensures.0,
      c.in-Ok.ensures.1,
      subst (λ all. HasWritten (export_text c.args.catalogue.now.names all) out c.write_listed.result) same (rw (c.plain-sources.ensures, c.names.ensures) at c.write_listed.ensures.written),
      subst (λ all. OnOk c.write_listed.result (c.write_listed.new.left.items ≡ c.args.left.now.items ++ left_of (plain c.args.catalogue.now.names) all)) same (rw (c.plain-sources.ensures, c.names.ensures) at c.write_listed.ensures.gained),
      c.write_listed.ensures.unchanged,
    )

pub returns-in-Err : goal.returns-in-Err
returns-in-Err g c = (
  c.in-Err.ensures.0,
  c.in-Err.ensures.1,
  none-written (g.O.Sink.written c.args.out.now) (g.O.Sink.faults c.args.out.now) (export_text c.args.catalogue.now.names c.in-Err.ensures.0),
  tt,
  refl,
)
