use Rattle.std.proofs.Common.{[], take, refl, sym, ap, subst, ◌∙◌, arith}
use Rattle.std.specs.Prelude.{Err, IfSome}
use Rattle.std.proofs.lemmas.Result.{err_from_is_err_and}
use Rattle.iso2709_frame.specs.Frames.{frames}
use Rattle.union_io.specs.Causes.{Rose}
use Rattle.catalogue_lock.specs.Tokens.{view}
use Rattle.library_stream.specs.Streaming.{most_ahead}
use Rattle.library_batches.specs.Batches.{AreFirstBatches}
use Rattle.library_batches.specs.Handing.{HandsOut}
use Rattle.library_batches.specs.Outcomes.{AreCounted}
use Rattle.library_batches.specs.Reading.{Batching}
use Rattle.library_batches.specs.declared.stop.Stop.TheVariants.{Memory}
use Rattle.library_batches.proofs.HandingLaws.{HandsOut-none, HandsOut-first, HandsOut-round, HandsOut-part, HandsOut-ended, HandsOut-stopped}
use Rattle.load_sessions.proofs.TallyLaws.{found-none}
use Rattle.load_sessions.proofs.TurnLaws.{Turns-stopped}
use Rattle.load_sessions.proofs.rounds.turn_rounds.Goals as goal

pub loop-batches-init : goal.loop-batches-init
loop-batches-init g c =
    let session = c.args.session.now in
    let left = g.S.Source.left session.source in
    let pass = view session.pass in
    let room = ap (λ (reader : Batching). most_ahead reader.stream) c.requires.reader in
    record {
      keeps = record { number = refl; library = refl; limit = refl; prefer = refl; source = refl; desk_is = c.requires.desk; pass = (refl, refl) };
      faults = refl;
      handed = subst (λ own. HandsOut session.prefer session.library session.limit left own c.args.reader.now left) (sym c.requires.own)
          (subst (λ reader. HandsOut session.prefer session.library session.limit left [] reader left) (sym c.requires.reader)
          (HandsOut-none session.prefer session.library session.limit left));
      brought = subst (λ outcomes. AreCounted outcomes c.args.counts.now) (sym (found-none pass.number pass.seen pass.own session.pass.rests.own c.requires.own))
          c.requires.counts.0;
      few = omega (arith, room, c.requires.counts.1, c.requires.limit);
      turns = omega (arith, room, c.requires.limit);
    }

pub returns-in_err-batches : goal.returns-in_err-batches
returns-in_err-batches g c =
    let before = c.loop-batches.invariant in
    let start = c.args.session.now in
    let left = g.S.Source.left start.source in
    let own = (view c.loop-batches.session.pass).own in
    let told = g.S.Source.left c.loop-batches.session.source in
    let round = c.next_round in
    let then = g.S.Source.left round.new.source in
    let stop = c.in_err-batches.field-0.0 in
    let p = err_from_is_err_and c.from_residual.result c.from_residual.ensures.1 in
    Turns-stopped g.S.Source.name g.S.Source.left g.S.Source.faults c.args.turning.now.desk.now.board.shared.table_id start _ round.new.self
    c.loop-batches.counts c.from_residual.result stop (p.1 ∙ ap Err p.2)
    (record {
      number = before.keeps.number;
      library = before.keeps.library;
      limit = before.keeps.limit;
      prefer = before.keeps.prefer;
      source = round.ensures.name ∙ before.keeps.source;
      desk_is = before.keeps.desk_is;
      pass = before.keeps.pass;
    })
    (HandsOut-first start.prefer start.library start.limit left told own c.loop-batches.reader before.handed)
    (λ is. HandsOut-stopped start.prefer start.library start.limit left stop own c.loop-batches.reader round.new.self told then before.handed
    c.in_err-batches.ensures.answers is)
    (λ is. subst (λ count. Rose count (g.S.Source.faults round.new.source)) before.faults (c.in_err-batches.ensures.failed (ap Err is)))
    (λ other. c.in_err-batches.ensures.calm (λ wrong. other (cc wrong)) ∙ before.faults)

pub returns-in_err-turn_each : goal.returns-in_err-turn_each
returns-in_err-turn_each g c =
    let before = c.loop-batches.invariant in
    let start = c.args.session.now in
    let left = g.S.Source.left start.source in
    let own = (view c.loop-batches.session.pass).own in
    let told = g.S.Source.left c.loop-batches.session.source in
    let round = c.next_round in
    let then = g.S.Source.left round.new.source in
    let batches = c.in_ok-batches.field-0.batches.items in
    let turned = c.in_err-turn_each.ensures.turned in
    let p = err_from_is_err_and c.from_residual-in_err-turn_each.result c.from_residual-in_err-turn_each.ensures.1 in
    Turns-stopped g.S.Source.name g.S.Source.left g.S.Source.faults c.args.turning.now.desk.now.board.shared.table_id start _ round.new.self
    c.turn_each.new.counts c.from_residual-in_err-turn_each.result Memory (p.1 ∙ ap Err p.2)
    (record {
      number = before.keeps.number;
      library = before.keeps.library;
      limit = before.keeps.limit;
      prefer = before.keeps.prefer;
      source = round.ensures.name ∙ before.keeps.source;
      desk_is = c.turn_each.ensures.desk;
      pass = (c.turn_each.ensures.same.0 ∙ before.keeps.pass.0, c.turn_each.ensures.same.1 ∙ before.keeps.pass.1);
    })
    (subst (λ done. IfSome left (λ bytes. AreFirstBatches start.prefer start.library (frames (take start.limit bytes)) done)) (sym turned.3)
    (HandsOut-part start.prefer start.library start.limit left turned.0 turned.1 batches own c.loop-batches.reader round.new.self told then turned.2 before.handed
    c.in_ok-batches.ensures.answers.hands))
    (λ is. absurd (cc is))
    (λ is. absurd (cc is))
    (λ other. c.in_ok-batches.ensures.calm (λ wrong. cc wrong) ∙ before.faults)

pub returns-then-ended : goal.returns-then-ended
returns-then-ended g c =
    let before = c.loop-batches.invariant in
    let start = c.args.session.now in
    let left = g.S.Source.left start.source in
    let own = (view c.loop-batches.session.pass).own in
    let told = g.S.Source.left c.loop-batches.session.source in
    let round = c.next_round in
    let then = g.S.Source.left round.new.source in
    let answers = c.in_ok-batches.ensures.answers in
    let batches = c.in_ok-batches.field-0.batches.items in
    let done = (view c.turn_each.new.pass).own in
    let handed = subst (λ done. HandsOut start.prefer start.library start.limit left done round.new.self then) (sym c.in_ok-turn_each.ensures.turned)
    (HandsOut-round start.prefer start.library start.limit left batches own c.loop-batches.reader round.new.self told then before.handed answers.hands) in
    record {
      keeps = record {
        number = before.keeps.number;
        library = before.keeps.library;
        limit = before.keeps.limit;
        prefer = before.keeps.prefer;
        source = round.ensures.name ∙ before.keeps.source;
        desk_is = c.turn_each.ensures.desk;
        pass = (c.turn_each.ensures.same.0 ∙ before.keeps.pass.0, c.turn_each.ensures.same.1 ∙ before.keeps.pass.1);
      };
      gained = HandsOut-first start.prefer start.library start.limit left then done round.new.self handed;
      done = HandsOut-ended start.prefer start.library start.limit left done round.new.self then handed (answers.ended c.if-ended.true);
      counts_are = c.in_ok-turn_each.ensures.counts;
      long = λ is. absurd (cc is);
      fault = λ is. absurd (cc is);
      calm = λ other. c.in_ok-batches.ensures.calm (λ wrong. cc wrong) ∙ before.faults;
    }

pub loop-batches-preserved : goal.loop-batches-preserved
loop-batches-preserved g c =
    let before = c.loop-batches.invariant in
    let start = c.args.session.now in
    let left = g.S.Source.left start.source in
    let own = (view c.loop-batches.session.pass).own in
    let told = g.S.Source.left c.loop-batches.session.source in
    let round = c.next_round in
    let then = g.S.Source.left round.new.source in
    let answers = c.in_ok-batches.ensures.answers in
    let batches = c.in_ok-batches.field-0.batches.items in
    record {
      keeps = record {
        number = before.keeps.number;
        library = before.keeps.library;
        limit = before.keeps.limit;
        prefer = before.keeps.prefer;
        source = round.ensures.name ∙ before.keeps.source;
        desk_is = c.turn_each.ensures.desk;
        pass = (c.turn_each.ensures.same.0 ∙ before.keeps.pass.0, c.turn_each.ensures.same.1 ∙ before.keeps.pass.1);
      };
      faults = c.in_ok-batches.ensures.calm (λ wrong. cc wrong) ∙ before.faults;
      handed = subst (λ done. HandsOut start.prefer start.library start.limit left done round.new.self then) (sym c.in_ok-turn_each.ensures.turned)
          (HandsOut-round start.prefer start.library start.limit left batches own c.loop-batches.reader round.new.self told then before.handed answers.hands);
      brought = c.in_ok-turn_each.ensures.counts;
      few = omega (arith, before.few, answers.fewer, c.in_ok-turn_each.ensures.few);
      turns = omega (arith, before.turns, answers.fewer, c.len-count.ensures, c.in_ok-batches.field-0.batches.ok);
    }
