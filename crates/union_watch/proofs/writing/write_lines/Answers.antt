use Rattle.std.proofs.Common.{◌≡◌, ◌++◌, map, refl, sym, ap, subst, ◌∙◌, append-nil}
use Rattle.std.proofs.lemmas.List.{drop_all}
use Rattle.catalogue_export.specs.Writing.{IsWrittenTo}
use Rattle.union_watch.specs.AskLines.{line_meaning}
use Rattle.union_watch.specs.Told.{told_of, told_text_of}
use Rattle.union_watch.proofs.PieceLaws.{moved-all, moved-stops, pending-all}
use Rattle.union_watch.proofs.ToldLaws.{told-next, told-moved}
use Rattle.union_watch.proofs.writing.write_lines.Goals as goal

pub loop-line-init : goal.loop-line-init
loop-line-init g c = record {
  text = c.args.pending.now.items;
  whole = refl;
  moved = pending-all (g.O.Sink.written c.args.out.now) c.args.pending.now.items;
  calm = refl;
}

pub returns-in-Err : goal.returns-in-Err
returns-in-Err g c =
    let before = c.loop-line.invariant in
    let replies = c.loop-line.replies.left.now in
    moved-stops (g.O.Sink.written c.args.out.now) (g.O.Sink.written c.loop-line.out) (g.O.Sink.written c.write_line.new.out)
    (g.O.Sink.faults c.args.out.now) (g.O.Sink.faults c.loop-line.out) (g.O.Sink.faults c.write_line.new.out)
    before.text c.loop-line.pending.items _ c.write_line.new.pending.items
    (c.args.pending.now.items ++ told_text_of (told_of (map line_meaning c.args.lines.now) c.args.replies.now)) _ c.write_line.new.pending.items c.in-Err.fail
    before.moved before.calm c.in-Err.ensures.text
    (before.whole ∙ ap (λ told. before.text ++ told) (told-next c.args.lines.now c.loop-line.line-index _ replies c.loop-line-test.true))

pub loop-line-preserved : goal.loop-line-preserved
loop-line-preserved g c =
    let before = c.loop-line.invariant in
    let next = told-moved c.args.lines.now c.loop-line.line-index _ c.loop-line.replies.left.now _ (c.args.pending.now.items ++ told_text_of (told_of (map line_meaning c.args.lines.now) c.args.replies.now)) before.text c.loop-line.pending.items _ _ _ _ _ _
    c.loop-line-test.true before.whole before.moved c.in-Ok.ensures.text c.in-Ok.ensures.left in
    record { text = next.text; whole = next.whole; moved = next.moved; calm = c.in-Ok.ensures.text.calm (λ is. cc) ∙ before.calm }

pub returns : goal.returns
returns g c =
    let before = c.loop-line.invariant in
    let lines = c.args.lines.now in
    let replies = c.loop-line.replies.left.now in
    let place = c.loop-line.line-index in
    let whole : c.args.pending.now.items ++ told_text_of (told_of (map line_meaning lines) c.args.replies.now) ≡ before.text
    = before.whole ∙ ap (λ left. before.text ++ told_text_of (told_of (map line_meaning left) replies)) (drop_all place lines c.loop-line-test.false) ∙ append-nil before.text in
    moved-all (g.O.Sink.written c.args.out.now) (g.O.Sink.written c.loop-line.out) (g.O.Sink.faults c.args.out.now) (g.O.Sink.faults c.loop-line.out)
    (c.args.pending.now.items ++ told_text_of (told_of (map line_meaning lines) c.args.replies.now)) c.loop-line.pending.items
    (subst (λ text. IsWrittenTo text c.loop-line.pending.items (g.O.Sink.written c.args.out.now) (g.O.Sink.written c.loop-line.out)) (sym whole) before.moved) before.calm
