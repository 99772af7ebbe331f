use Rattle.std.proofs.Common.{◌≡◌, ◌++◌, [], length, take, refl, sym, ap, subst, ◌∙◌, arith}
use Rattle.std.specs.Prelude.{Ok, Err, Some, IfSome}
use Rattle.std.proofs.lemmas.Result.{err_from_is_err_and}
use Rattle.iso2709_frame.specs.Frames.{frames}
use Rattle.union_io.specs.Causes.{Rose}
use Rattle.catalogue_lock.specs.Tokens.{view}
use Rattle.library_stream.specs.Streaming.{most_ahead}
use Rattle.library_batches.specs.Batches.{AreFirstBatches}
use Rattle.library_batches.specs.Handing.{HandsOut}
use Rattle.library_batches.specs.Outcomes.{AreCounted}
use Rattle.library_batches.specs.Reading.{Batching}
use Rattle.library_batches.proofs.HandingLaws.{HandsOut-none}
use Rattle.library_batches.specs.Tallies.{found}
use Rattle.load_sessions.specs.Turning.{stop_beside}
use Rattle.load_sessions.proofs.AheadLaws.{Awaits, Awaits-more, Awaits-first, Awaits-long, to_come, to_come-fewer, stop_beside-short, stop_beside-failed, stop_beside-calm, answered}
use Rattle.load_sessions.proofs.TallyLaws.{found-none}
use Rattle.load_sessions.proofs.TurnLaws.{IsSameSession-more, Turns-stopped}
use Rattle.load_sessions.proofs.turning.turn_batches.Goals as goal

pub loop-change-init : goal.loop-change-init
loop-change-init g c =
    let session = c.args.session.now in
    let left = g.S.Source.left session.source in
    let pass = view session.pass in
    let read = c.read_change-next in
    let room = ap (λ (reader : Batching). most_ahead reader.stream) c.requires.reader in
    let fewer = to_come-fewer read.result c.args.reader.now read.new.reader read.ensures.fewer in
    record {
      keeps = record { number = refl; library = refl; limit = refl; prefer = refl; source = read.ensures.name; desk_is = c.requires.desk; pass = (refl, refl) };
      failed = read.ensures.failed;
      calm = read.ensures.calm;
      awaits = record {
        earlier = c.args.reader.now;
        told = left;
        handed = subst (λ own. HandsOut session.prefer session.library session.limit left own c.args.reader.now left) (sym c.requires.own)
            (subst (λ reader. HandsOut session.prefer session.library session.limit left [] reader left) (sym c.requires.reader)
            (HandsOut-none session.prefer session.library session.limit left));
        answers = read.ensures.answers;
      };
      brought = subst (λ outcomes. AreCounted outcomes c.args.counts.now) (sym (found-none pass.number pass.seen pass.own session.pass.rests.own c.requires.own))
          c.requires.counts.0;
      few = omega (arith, room, fewer, c.requires.counts.1, c.requires.limit);
      turns = omega (arith, room, fewer, c.requires.limit);
    }

pub returns-in_err-change : goal.returns-in_err-change
returns-in_err-change g c =
    let before = c.loop-change.invariant in
    let start = c.args.session.now in
    let stop = c.in_err-change.field-0.0 in
    let was = c.in_err-change.was in
    let p = err_from_is_err_and c.from_residual.result c.from_residual.ensures.1 in
    Turns-stopped g.S.Source.name g.S.Source.left g.S.Source.faults c.args.turning.now.desk.now.board.shared.table_id start c.loop-change.session c.loop-change.reader
    c.loop-change.counts c.from_residual.result stop (p.1 ∙ ap Err p.2) before.keeps
    (Awaits-first start.prefer start.library start.limit (g.S.Source.left start.source) (view c.loop-change.session.pass).own c.loop-change.next
    c.loop-change.reader (g.S.Source.left c.loop-change.session.source) before.awaits)
    (λ is. Awaits-long start.prefer start.library start.limit (g.S.Source.left start.source) (view c.loop-change.session.pass).own c.loop-change.next
    c.loop-change.reader (g.S.Source.left c.loop-change.session.source) before.awaits (cc (was, is)))
    (λ is. before.failed (cc (was, is)))
    (λ other. before.calm (λ is. other (cc (was, is))))

pub returns-in-Err : goal.returns-in-Err
returns-in-Err g c =
    let before = c.loop-change.invariant in
    let start = c.args.session.now in
    let left = g.S.Source.left start.source in
    let own = (view c.loop-change.session.pass).own in
    let turn = c.turn_and_read-turned in
    let now = turn.new.session in
    let coming = turn.result.1 in
    let stop = c.stop_of.result in
    let is : stop ≡ stop_beside coming = c.stop_of.ensures in
    let kept = rw c.in-Err.is at turn.ensures.memory in
    let calm = before.calm (answered c.loop-change.next (Some c.in-Some.change) (c.in_ok-change.was ∙ ap Ok c.in-Some.is)) in
    Turns-stopped g.S.Source.name g.S.Source.left g.S.Source.faults c.args.turning.now.desk.now.board.shared.table_id start now turn.new.reader
    c.loop-change.counts (Err stop) stop refl
    (IsSameSession-more g.S.Source.name c.args.turning.now.desk.now.board.shared.table_id start c.loop-change.session now before.keeps turn.ensures.keeps)
    (subst (λ own. IfSome left (λ bytes. AreFirstBatches start.prefer start.library (frames (take start.limit bytes)) own)) (sym kept)
    (Awaits-first start.prefer start.library start.limit left own c.loop-change.next c.loop-change.reader (g.S.Source.left c.loop-change.session.source) before.awaits))
    (λ long. absurd (stop_beside-short coming (sym is ∙ long)))
    (λ failed. subst (λ count. Rose count (g.S.Source.faults now.source)) calm (turn.ensures.failed (stop_beside-failed coming (sym is ∙ failed))))
    (λ other. turn.ensures.calm (stop_beside-calm coming (λ e. other (is ∙ e))) ∙ calm)

pub loop-change-preserved : goal.loop-change-preserved
loop-change-preserved g c =
    let before = c.loop-change.invariant in
    let start = c.args.session.now in
    let left = g.S.Source.left start.source in
    let pass = view c.loop-change.session.pass in
    let told = g.S.Source.left c.loop-change.session.source in
    let turn = c.turn_and_read-turned in
    let now = turn.new.session in
    let then = g.S.Source.left now.source in
    let coming = turn.result.1 in
    let batch = c.in-Some.change in
    let was : c.loop-change.next ≡ Ok (Some batch) = c.in_ok-change.was ∙ ap Ok c.in-Some.is in
    let calm = before.calm (answered c.loop-change.next (Some batch) was) in
    let own = rw c.in-Ok.is at turn.ensures.own in
    let brought = rw c.in-Ok.is at turn.ensures.found in
    let few = rw c.in-Ok.is at turn.ensures.few in
    let fewer = to_come-fewer coming c.loop-change.reader turn.new.reader turn.ensures.fewer in
    let had = ap (λ next. to_come next c.loop-change.reader) was in
    record {
      keeps = IsSameSession-more g.S.Source.name c.args.turning.now.desk.now.board.shared.table_id start c.loop-change.session now before.keeps turn.ensures.keeps;
      failed = λ is. subst (λ count. Rose count (g.S.Source.faults now.source)) calm (turn.ensures.failed is);
      calm = λ other. turn.ensures.calm other ∙ calm;
      awaits = subst (λ own. Awaits start.prefer start.library start.limit left own coming turn.new.reader then) (sym own)
          (Awaits-more start.prefer start.library start.limit left pass.own c.loop-change.next c.loop-change.reader told batch coming turn.new.reader then
          before.awaits was turn.ensures.answers);
      brought = subst (λ outcomes. AreCounted outcomes c.count.new.self) (ap (λ outcomes. found pass.seen pass.number ++ outcomes) c.as_slice.ensures.value ∙ sym brought)
          (c.count.ensures.more (found pass.seen pass.number) before.brought);
      few = omega (arith, before.few, c.count.ensures.total, ap length c.as_slice.ensures.value, few, fewer, had);
      turns = omega (arith, before.turns, fewer, had);
    }
