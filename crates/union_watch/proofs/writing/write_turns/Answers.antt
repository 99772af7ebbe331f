use Rattle.std.proofs.Common.{◌≡◌, ◌≤◌, ◌+◌, ◌++◌, length, drop, refl, sym, ap, subst, ◌∙◌, append_assoc, append-nil, arith}
use Rattle.std.proofs.lemmas.List.{drop_all}
use Rattle.std.specs.List.{flat_map}
use Rattle.catalogue_export.specs.Writing.{IsWrittenTo}
use Rattle.catalogue_export.proofs.WritingLaws.{moved-more}
use Rattle.union_watch.specs.TurnLines.{turn_of, turn_text, turns_from, turns_text}
use Rattle.union_watch.proofs.PieceLaws.{left-from, moved-all, moved-stops, pending-all}
use Rattle.union_watch.proofs.writing.write_turns.Goals as goal

pub loop-turn-init : goal.loop-turn-init
loop-turn-init g c = record {
  text = c.args.pending.now.items;
  whole = refl;
  moved = pending-all (g.O.Sink.written c.args.out.now) c.args.pending.now.items;
  calm = refl;
}

pub returns-in-Err : goal.returns-in-Err
returns-in-Err g c =
    let before = c.loop-turn.invariant in
    let turn = c.loop-turn.turn in
    let history = c.args.catalogue.now.history in
    let entry = c.entry.result.now in
    moved-stops (g.O.Sink.written c.args.out.now) (g.O.Sink.written c.loop-turn.out) (g.O.Sink.written c.write_turn.new.out)
    (g.O.Sink.faults c.args.out.now) (g.O.Sink.faults c.loop-turn.out) (g.O.Sink.faults c.write_turn.new.out)
    before.text c.loop-turn.pending.items (turn_text (turn_of (turn + 1) entry)) c.write_turn.new.pending.items
    (c.args.pending.now.items ++ turns_text history) (flat_map turn_text (turns_from (turn + 1 + 1) (drop (turn + 1) history))) c.write_turn.new.pending.items c.in-Err.fail
    before.moved before.calm c.in-Err.ensures
    (before.whole ∙ ap (λ left. before.text ++ flat_map turn_text (turns_from (turn + 1) left)) (left-from history turn entry c.entry.ensures))

pub loop-turn-preserved : goal.loop-turn-preserved
loop-turn-preserved g c =
    let before = c.loop-turn.invariant in
    let turn = c.loop-turn.turn in
    let history = c.args.catalogue.now.history in
    let entry = c.entry.result.now in
    record {
      text = before.text ++ turn_text (turn_of (turn + 1) entry);
      whole =
          before.whole ∙ ap (λ left. before.text ++ flat_map turn_text (turns_from (turn + 1) left)) (left-from history turn entry c.entry.ensures)
          ∙ sym (append_assoc before.text (turn_text (turn_of (turn + 1) entry)) (flat_map turn_text (turns_from (turn + 1 + 1) (drop (turn + 1) history))));
      moved = moved-more _ _ _ _ _ _ _ _ _ before.moved c.in-Ok.ensures;
      calm = c.in-Ok.ensures.calm (λ is. cc) ∙ before.calm;
    }

pub returns : goal.returns
returns g c =
    let before = c.loop-turn.invariant in
    let turn = c.loop-turn.turn in
    let history = c.args.catalogue.now.history in
    let past : length history ≤ turn = omega (arith, c.turns-turn-end.ensures.value, c.loop-turn-test.false) in
    let whole : c.args.pending.now.items ++ turns_text history ≡ before.text
    = before.whole ∙ ap (λ left. before.text ++ flat_map turn_text (turns_from (turn + 1) left)) (drop_all turn history past) ∙ append-nil before.text in
    moved-all (g.O.Sink.written c.args.out.now) (g.O.Sink.written c.loop-turn.out) (g.O.Sink.faults c.args.out.now) (g.O.Sink.faults c.loop-turn.out)
    (c.args.pending.now.items ++ turns_text history) c.loop-turn.pending.items
    (subst (λ text. IsWrittenTo text c.loop-turn.pending.items (g.O.Sink.written c.args.out.now) (g.O.Sink.written c.loop-turn.out)) (sym whole) before.moved) before.calm
