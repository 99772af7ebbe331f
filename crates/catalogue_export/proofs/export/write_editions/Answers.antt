use Rattle.std.proofs.Common.{◌++◌, ◌+◌, ◌≤◌, [], Bor, map, take, drop, length, refl, sym, ap, subst, ◌∙◌, append-nil, append_assoc, arith}
use Rattle.std.proofs.lemmas.List.{take_all, length-map}
use Rattle.catalogue_editions.specs.declared.edition.Edition.{Edition}
use Rattle.std.specs.List.{flat_map}
use Rattle.catalogue_export.specs.Sources.{left_of_one, left_of}
use Rattle.catalogue_export.specs.Writing.{IsWrittenTo}
use Rattle.catalogue_core.proofs.WalkLaws.{told-more}
use Rattle.catalogue_export.proofs.AroundLaws.{told-around, seen-at}
use Rattle.catalogue_export.proofs.WritingLaws.{written-none, moved-more, stopped-written, rest-written, on-ok, on-err, gains-more, gains-all}
use Rattle.catalogue_export.proofs.export.write_editions.Goals as goal

pub loop-edition-init : goal.loop-edition-init
loop-edition-init g c =
    let written = g.O.Sink.written c.args.out.now in
    record {
      moved = subst (λ pending. IsWrittenTo [] pending written written) (sym c.new-pending.ensures.items) (written-none written);
      calm = refl;
      left = sym (append-nil c.args.left.now.items);
    }

pub returns-in-Err : goal.returns-in-Err
returns-in-Err g c =
    let before = c.loop-edition.invariant in
    let shown = g.F.ExportForm.shown c.args.sources.now in
    let noted = left_of_one c.args.sources.now in
    let all = map (λ (e : Bor Edition). e.now) c.args.editions.now in
    let place = c.loop-edition.edition-index in
    let e = c.edition-item.result.now in
    let at = seen-at c.args.editions.now place c.edition-item.result c.loop-edition-test.true c.edition-item.is in
    record {
      written = stopped-written (g.O.Sink.written c.args.out.now) (g.O.Sink.written c.loop-edition.out) (g.O.Sink.written c.write_edition.new.out)
          (g.O.Sink.faults c.args.out.now) (g.O.Sink.faults c.loop-edition.out) (g.O.Sink.faults c.write_edition.new.out)
          (flat_map shown (take place all)) c.loop-edition.pending.items (shown e) c.write_edition.new.pending.items
          (flat_map shown all) (flat_map shown (drop (place + 1) all)) c.in-Err.fail
          before.moved before.calm c.in-Err.ensures.text (told-around shown all place e at);
      gained = tt;
      stopped = gains-more c.args.left.now.items c.loop-edition.left.items c.write_edition.new.left.items (flat_map noted (take place all)) (noted e)
          (flat_map noted (drop (place + 1) all)) (flat_map noted all) before.left c.in-Err.ensures.stopped (told-around noted all place e at);
    }

pub loop-edition-preserved : goal.loop-edition-preserved
loop-edition-preserved g c =
    let before = c.loop-edition.invariant in
    let shown = g.F.ExportForm.shown c.args.sources.now in
    let all = map (λ (e : Bor Edition). e.now) c.args.editions.now in
    let place = c.loop-edition.edition-index in
    let e = c.edition-item.result.now in
    let at = seen-at c.args.editions.now place c.edition-item.result c.loop-edition-test.true c.edition-item.is in
    record {
      moved = subst (λ text. IsWrittenTo text c.write_edition.new.pending.items (g.O.Sink.written c.args.out.now) (g.O.Sink.written c.write_edition.new.out))
          (sym (told-more shown all place e at))
          (moved-more _ _ _ _ _ _ _ _ _ before.moved c.in-Ok.ensures.text);
      calm = c.in-Ok.ensures.text.calm (λ is. cc) ∙ before.calm;
      left = c.in-Ok.ensures.left ∙ ap (λ l. l ++ left_of_one c.args.sources.now e) before.left ∙ append_assoc c.args.left.now.items (left_of c.args.sources.now (take place all)) (left_of_one c.args.sources.now e)
          ∙ ap (λ l. c.args.left.now.items ++ l) (sym (told-more (left_of_one c.args.sources.now) all place e at));
    }

pub returns : goal.returns
returns g c =
    let before = c.loop-edition.invariant in
    let shown = g.F.ExportForm.shown c.args.sources.now in
    let all = map (λ (e : Bor Edition). e.now) c.args.editions.now in
    let past : length all ≤ c.loop-edition.edition-index = omega (arith, length-map c.args.editions.now (λ (e : Bor Edition). e.now), c.loop-edition-test.false) in
    let whole = take_all c.loop-edition.edition-index all past in
    let written = g.O.Sink.written c.args.out.now in
    let left = before.left ∙ ap (λ es. c.args.left.now.items ++ left_of c.args.sources.now es) whole in
    record {
      written = rest-written written (g.O.Sink.written c.loop-edition.out) (g.O.Sink.written c.hand_on_rest.new.out)
          (g.O.Sink.faults c.args.out.now) (g.O.Sink.faults c.loop-edition.out) (g.O.Sink.faults c.hand_on_rest.new.out)
          (flat_map shown all) c.loop-edition.pending.items c.hand_on_rest.result
          (subst (λ es. IsWrittenTo (flat_map shown es) c.loop-edition.pending.items written (g.O.Sink.written c.loop-edition.out)) whole before.moved) before.calm
          (rw c.as_slice.ensures.value at c.hand_on_rest.ensures);
      gained = on-ok c.hand_on_rest.result left;
      stopped = on-err c.hand_on_rest.result (gains-all c.args.left.now.items c.loop-edition.left.items (left_of c.args.sources.now all) left);
    }
