use Rattle.std.proofs.Common.{◌≤◌, ◌+◌, [], take, drop, refl, sym, ap, subst, ◌∙◌, length, arith}
use Rattle.std.specs.List.{flat_map}
use Rattle.std.specs.Option.{option_copied}
use Rattle.std.proofs.lemmas.List.{take_all}
use Rattle.work_clusters.specs.Works.{keys_of, ids_under}
use Rattle.catalogue_export.specs.WorkLists.{work_text}
use Rattle.catalogue_export.specs.Writing.{IsWrittenTo}
use Rattle.catalogue_core.proofs.WalkLaws.{told-more, some-within}
use Rattle.catalogue_export.proofs.AroundLaws.{told-around}
use Rattle.catalogue_export.proofs.WorkWalk.{first-key, next-key, work-at, keys-many}
use Rattle.catalogue_export.proofs.WritingLaws.{written-none, moved-more, stopped-written, rest-written}
use Rattle.catalogue_export.proofs.works_text.write_works.Goals as goal
use Rattle.catalogue_export.proofs.works_text.write_works.Goals.{in-Some+in-Ok, in_default}

pub loop-init : goal.loop-init
loop-init g c =
    let written = g.O.Sink.written c.args.out.now in
    record {
      ordered = c.are_in_order.ensures;
      end = c.count-end.ensures;
      next = c.after-next.ensures ∙ first-key c.args.works.now.works;
      moved = subst (λ pending. IsWrittenTo [] pending written written) (sym c.new-pending.ensures.items) (written-none written);
      calm = refl;
    }

pub returns-in-Err : goal.returns-in-Err
returns-in-Err g c =
    let before = c.loop.invariant in
    let works = c.args.works.now.works in
    let key = c.in-Some.key.now in
    let at = work-at works c.loop.counter key before.ordered.keys (sym before.next ∙ ap option_copied c.in-Some.is) in
    stopped-written (g.O.Sink.written c.args.out.now) (g.O.Sink.written c.loop.out) (g.O.Sink.written c.write_work.new.out)
    (g.O.Sink.faults c.args.out.now) (g.O.Sink.faults c.loop.out) (g.O.Sink.faults c.write_work.new.out)
    (flat_map work_text (take c.loop.counter works)) c.loop.pending.items (work_text (key, ids_under works key)) c.write_work.new.pending.items
    (flat_map work_text works) (flat_map work_text (drop (c.loop.counter + 1) works)) c.in-Err.fail
    before.moved before.calm (rw (c.editions_of-editions.ensures, c.bytes-text.ensures) at c.in-Err.ensures)
    (told-around work_text works c.loop.counter (key, ids_under works key) at)

pub loop-preserved : goal.loop-preserved
loop-preserved g c =
    let before = c.loop.invariant in
    let works = c.args.works.now.works in
    let up = before.ordered.keys in
    elim c.match-next.branch [
      | in-Some+in-Ok w ↦
          let key = w.in-Some.key.now in
          let there = sym before.next ∙ ap option_copied w.in-Some.is in
          let at = work-at works c.loop.counter key up there in
          rw (w.out-is, w.pending-is, w.next-is) (record {
            ordered = before.ordered;
            end = before.end;
            next = w.after-next-in-Ok.ensures ∙ next-key works c.loop.counter key up there;
            moved = subst (λ text. IsWrittenTo text w.write_work.new.pending.items (g.O.Sink.written c.args.out.now) (g.O.Sink.written w.write_work.new.out))
                (sym (told-more work_text works c.loop.counter (key, ids_under works key) at))
                (moved-more _ _ _ _ _ _ _ _ _ before.moved (rw (w.editions_of-editions.ensures, w.bytes-text.ensures) at w.in-Ok.ensures));
            calm = w.in-Ok.ensures.calm (λ is. cc) ∙ before.calm;
          })
      | in_default w ↦ absurd (some-within (keys_of works) c.loop.counter (omega (arith, before.end, c.loop-test.true, keys-many works)) (sym before.next ∙ ap option_copied w.in_default.is))
    ]

pub returns : goal.returns
returns g c =
    let before = c.loop.invariant in
    let works = c.args.works.now.works in
    let past : length works ≤ c.loop.counter = omega (arith, before.end, c.loop-test.false) in
    let whole = take_all c.loop.counter works past in
    let written = g.O.Sink.written c.args.out.now in
    rest-written written (g.O.Sink.written c.loop.out) (g.O.Sink.written c.hand_on_rest.new.out)
    (g.O.Sink.faults c.args.out.now) (g.O.Sink.faults c.loop.out) (g.O.Sink.faults c.hand_on_rest.new.out)
    (flat_map work_text works) c.loop.pending.items c.hand_on_rest.result
    (subst (λ text. IsWrittenTo text c.loop.pending.items written (g.O.Sink.written c.loop.out)) (ap (flat_map work_text) whole) before.moved) before.calm
    (rw c.as_slice.ensures.value at c.hand_on_rest.ensures)
