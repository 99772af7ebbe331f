use Rattle.std.proofs.Common.{◌≡◌, ◌≤◌, ◌+◌, ◌*◌, ◌/◌, ◌%◌, Bor, List, [], length, map, get_or, take, drop, sym, ap, subst, ◌∙◌, append-nil, arith}
use Rattle.std.specs.Prelude.{IfOk, Ok, Err, min}
use Rattle.std.proofs.lemmas.Grind.{div_ceil_times}
use Rattle.std.proofs.lemmas.List.{take-append-drop}
use Rattle.std.proofs.lemmas.Result.{err_from_is_err_and}
use Rattle.catalogue_editions.specs.declared.edition.Edition.{Edition}
use Rattle.catalogue_export.specs.Sources.{left_of_one}
use Rattle.catalogue_export.specs.Parts.{IsPartOf}
use Rattle.catalogue_export.specs.Writing.{Output, IsExport}
use Rattle.catalogue_export.specs.declared.export_fail.ExportFail.TheVariants.{Memory}
use Rattle.catalogue_export.proofs.ExportLaws.{export-unmade, to-begin, to-more, to-stop}
use Rattle.catalogue_export.proofs.PartLaws.{part-export}
use Rattle.catalogue_export.proofs.ShareLaws.{AreShares, are-shares}
use Rattle.catalogue_export.specs.declared.by_workers.Part.{Part}
use Rattle.catalogue_export.proofs.by_workers.write_round.Goals as goal

pub loop-made-init : goal.loop-made-init
loop-made-init g c =
    let shown = g.F.ExportForm.shown c.args.listing.now.sources.now in
    let noted = left_of_one c.args.listing.now.sources.now in
    let editions = c.args.listing.now.editions.now in
    let parts = c.in_ok-parts.parts.items in
    let count : length parts ≡ length editions / c.args.size + min 1 (length editions % c.args.size) = omega (arith, c.in_ok-parts.ensures.len, c.in_ok-parts.parts.ok) in
    let few : length editions ≤ length parts * c.args.size = subst (λ n. length editions ≤ n * c.args.size) (sym count) (div_ceil_times (length editions) c.args.size c.requires).0 in (
      editions,
      subst (λ made. AreShares c.args.size (λ (es : List (Bor Edition)) (part : Part). IsPartOf shown noted (map (λ (e : Bor Edition). e.now) es) part) editions made) (sym c.into_iter-made-iterator.ensures.into_iter_gives.0)
          (are-shares c.args.size (λ (es : List (Bor Edition)) (part : Part). IsPartOf shown noted (map (λ (e : Bor Edition). e.now) es) part) editions parts few
          (λ n d within.
          let given = (c.in_ok-parts.ensures.each n d within).1 in
          subst (λ es. IfOk (get_or parts n d) (IsPartOf shown noted (map (λ (e : Bor Edition). e.now) es))) given.argument_is.value given.call)),
      to-begin shown noted editions (g.O.Sink.written c.args.out.now) (g.O.Sink.faults c.args.out.now) c.args.left.now.items,
    )

pub returns-in_err-part : goal.returns-in_err-part
returns-in_err-part g c =
    let shown = g.F.ExportForm.shown c.args.listing.now.sources.now in
    let noted = left_of_one c.args.listing.now.sources.now in
    let editions = c.args.listing.now.editions.now in
    let rest = c.loop-made.invariant.0 in
    let out : Output = record { old = g.O.Sink.written c.args.out.now; new = g.O.Sink.written c.loop-made.out; before = g.O.Sink.faults c.args.out.now; after = g.O.Sink.faults c.loop-made.out } in
    let failed = err_from_is_err_and c.from_residual-in_err-part.result c.from_residual-in_err-part.ensures.1 in
    subst (λ result. IsExport shown noted (map (λ (e : Bor Edition). e.now) editions) out c.args.left.now.items c.loop-made.left.items result)
    (sym (failed.1 ∙ ap Err failed.2))
    (to-stop shown noted editions rest rest [] (g.O.Sink.written c.args.out.now) (g.O.Sink.written c.loop-made.out) (g.O.Sink.written c.loop-made.out)
    (g.O.Sink.faults c.args.out.now) (g.O.Sink.faults c.loop-made.out) (g.O.Sink.faults c.loop-made.out)
    c.args.left.now.items c.loop-made.left.items c.loop-made.left.items Memory (sym (append-nil rest)) c.loop-made.invariant.2
    (export-unmade shown noted (map (λ (e : Bor Edition). e.now) rest) (g.O.Sink.written c.loop-made.out) (g.O.Sink.faults c.loop-made.out) c.loop-made.left.items))

pub loop-made-preserved : goal.loop-made-preserved
loop-made-preserved g c =
    let shown = g.F.ExportForm.shown c.args.listing.now.sources.now in
    let noted = left_of_one c.args.listing.now.sources.now in
    let editions = c.args.listing.now.editions.now in
    let rest = c.loop-made.invariant.0 in
    let come = subst (λ made. AreShares c.args.size (λ (es : List (Bor Edition)) (part : Part). IsPartOf shown noted (map (λ (e : Bor Edition). e.now) es) part) rest made) c.in-Some.ensures.steps.0 c.loop-made.invariant.1 in
    let is = subst (λ made. IfOk made (IsPartOf shown noted (map (λ (e : Bor Edition). e.now) (take c.args.size rest)))) c.in_ok-part.was come.0 in
    let out : Output = record { old = g.O.Sink.written c.loop-made.out; new = g.O.Sink.written c.write_part.new.out; before = g.O.Sink.faults c.loop-made.out; after = g.O.Sink.faults c.write_part.new.out } in (
      drop c.args.size rest,
      come.1,
      to-more shown noted editions rest (take c.args.size rest) (drop c.args.size rest) (g.O.Sink.written c.args.out.now) (g.O.Sink.written c.loop-made.out) (g.O.Sink.written c.write_part.new.out)
          (g.O.Sink.faults c.args.out.now) (g.O.Sink.faults c.loop-made.out) (g.O.Sink.faults c.write_part.new.out)
          c.args.left.now.items c.loop-made.left.items c.write_part.new.left.items (sym (take-append-drop c.args.size rest)) c.loop-made.invariant.2
          (part-export shown noted (map (λ (e : Bor Edition). e.now) (take c.args.size rest)) c.in_ok-part.part out c.loop-made.left.items c.write_part.new.left.items (Ok tt)
          is c.in-Ok.ensures.written c.in-Ok.ensures.left c.in-Ok.ensures.stopped),
    )

pub returns-in-Err : goal.returns-in-Err
returns-in-Err g c =
    let shown = g.F.ExportForm.shown c.args.listing.now.sources.now in
    let noted = left_of_one c.args.listing.now.sources.now in
    let editions = c.args.listing.now.editions.now in
    let rest = c.loop-made.invariant.0 in
    let come = subst (λ made. AreShares c.args.size (λ (es : List (Bor Edition)) (part : Part). IsPartOf shown noted (map (λ (e : Bor Edition). e.now) es) part) rest made) c.in-Some.ensures.steps.0 c.loop-made.invariant.1 in
    let is = subst (λ made. IfOk made (IsPartOf shown noted (map (λ (e : Bor Edition). e.now) (take c.args.size rest)))) c.in_ok-part.was come.0 in
    let out : Output = record { old = g.O.Sink.written c.loop-made.out; new = g.O.Sink.written c.write_part.new.out; before = g.O.Sink.faults c.loop-made.out; after = g.O.Sink.faults c.write_part.new.out } in
    to-stop shown noted editions rest (take c.args.size rest) (drop c.args.size rest) (g.O.Sink.written c.args.out.now) (g.O.Sink.written c.loop-made.out) (g.O.Sink.written c.write_part.new.out)
    (g.O.Sink.faults c.args.out.now) (g.O.Sink.faults c.loop-made.out) (g.O.Sink.faults c.write_part.new.out)
    c.args.left.now.items c.loop-made.left.items c.write_part.new.left.items c.in-Err.fail (sym (take-append-drop c.args.size rest)) c.loop-made.invariant.2
    (part-export shown noted (map (λ (e : Bor Edition). e.now) (take c.args.size rest)) c.in_ok-part.part out c.loop-made.left.items c.write_part.new.left.items (Err c.in-Err.fail)
    is c.in-Err.ensures.written c.in-Err.ensures.left c.in-Err.ensures.stopped)
