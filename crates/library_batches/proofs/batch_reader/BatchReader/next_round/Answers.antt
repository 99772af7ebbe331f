use Rattle.std.proofs.Common.{◌≡◌, ◌+◌, List, [], length, refl, sym, ap, subst, ◌∙◌, arith}
use Rattle.std.specs.Prelude.{Bool, Result, Ok, Err}
use Rattle.std.proofs.lemmas.Result.{err_from_is_err_and}
use Rattle.library_stream.specs.Answering.{Takes}
use Rattle.library_stream.proofs.AheadLaws.{Takes-none}
use Rattle.library_batches.specs.Batches.{round_size}
use Rattle.library_batches.specs.Reading.{Batching}
use Rattle.library_batches.specs.Rounds.{HandsRound, RoundAnswers, reader_at}
use Rattle.library_batches.specs.Works.{CutsRound, frames_of}
use Rattle.library_batches.specs.declared.several.Round.{Round}
use Rattle.library_batches.specs.declared.stop.Stop.{Stop}
use Rattle.library_batches.specs.declared.stop.Stop.TheVariants.{TooLong, Failed, Memory}
use Rattle.library_batches.specs.declared.work.Work.{Work}
use Rattle.library_batches.proofs.RoundLaws.{is-round}
use Rattle.library_batches.proofs.ShareLaws.{front-none}
use Rattle.library_batches.proofs.StopLaws.{stops-long, stops-failed, stops-checking, stops-both}
use Rattle.library_batches.proofs.WorkLaws.{AreCut-takes, cut-whole}
use Rattle.library_batches.proofs.batch_reader.BatchReader.next_round.Goals as goal
use Rattle.library_batches.proofs.batch_reader.BatchReader.next_round.Goals.{in-Ok+in_ok-made-in-Ok, in-Err+in-TooLong+in_ok-made-in-TooLong, in-Err+in-Failed, in-Err+in-Memory}

pub returns-in_err-works-clause-answers : goal.returns-in_err-works-clause-answers
returns-in_err-works-clause-answers g c =
    let own = c.self.inside in
    let left = g.S.Source.left c.args.source.now in
    let still = g.S.Source.left c.work_round.new.source in
    let reader = c.work_round.new.reader in
    let before : Batching = reader_at own.prefer own.library own.reader own.frames own.refused.items in
    let now : Batching = reader_at own.prefer own.library reader own.frames own.refused.items in
    let memory = c.in_err-works.ensures.memory in
    let takes : Takes own.reader left reader still [] = subst (λ s. Takes own.reader left s still []) (sym memory.0)
    (subst (λ s. Takes own.reader left own.reader s []) (sym memory.1) (Takes-none own.reader left)) in
    let p = err_from_is_err_and c.from_residual.result c.from_residual.ensures.1 in
    rw (p.1, p.2)
    (subst (λ (a : Batching). RoundAnswers (Err Memory) a left now still) c.self.view_is
    (stops-checking round_size before now left still [] (omega arith) takes (front-none (own.frames + 1) [] own.refused.items)))

pub returns-in_err-made-in-Ok-clause-answers : goal.returns-in_err-made-in-Ok-clause-answers
returns-in_err-made-in-Ok-clause-answers g c =
    let own = c.self.inside in
    let left = g.S.Source.left c.args.source.now in
    let still = g.S.Source.left c.work_round.new.source in
    let reader = c.work_round.new.reader in
    let works = c.in_ok-works.field-0.works.items in
    let before : Batching = reader_at own.prefer own.library own.reader own.frames own.refused.items in
    let now : Batching = reader_at own.prefer own.library reader (own.frames + c.frame_count.result) c.batches_of-made.new.refused.items in
    let cuts = subst (λ answer. CutsRound answer (own.frames + 1) own.reader left reader still works) c.in-Ok.is c.in_ok-works.ensures.cut in
    let takes = AreCut-takes works own.reader reader left still (cut-whole c.in-Ok.ended own.reader reader left still works cuts.answers) in
    let front = c.batches_of-made.ensures.kept (own.frames + 1) cuts.numbered in
    let p = err_from_is_err_and c.from_residual-in_err-made-in-Ok.result c.from_residual-in_err-made-in-Ok.ensures.1 in
    rw (p.1, p.2)
    (subst (λ (a : Batching). RoundAnswers (Err Memory) a left now still) c.self.view_is
    (stops-checking round_size before now left still (frames_of works) cuts.most takes front))

pub returns-in_err-made-in-TooLong-clause-answers : goal.returns-in_err-made-in-TooLong-clause-answers
returns-in_err-made-in-TooLong-clause-answers g c =
    let own = c.self.inside in
    let left = g.S.Source.left c.args.source.now in
    let still = g.S.Source.left c.work_round.new.source in
    let reader = c.work_round.new.reader in
    let works = c.in_ok-works.field-0.works.items in
    let before : Batching = reader_at own.prefer own.library own.reader own.frames own.refused.items in
    let now : Batching = reader_at own.prefer own.library reader (own.frames + c.frame_count.result) c.batches_of-made.new.refused.items in
    let cuts = subst (λ answer. CutsRound answer (own.frames + 1) own.reader left reader still works) (c.in-Err.is ∙ ap Err c.in-TooLong.is) c.in_ok-works.ensures.cut in
    let front = c.batches_of-made.ensures.kept (own.frames + 1) cuts.numbered in
    let p = err_from_is_err_and c.from_residual-in_err-made-in-TooLong.result c.from_residual-in_err-made-in-TooLong.ensures.1 in
    rw (p.1, p.2)
    (subst (λ (a : Batching). RoundAnswers (Err Memory) a left now still) c.self.view_is
    (stops-both round_size TooLong before now left still (frames_of works) cuts.most cuts.answers front))

pub returns-clause-answers : goal.returns-clause-answers
returns-clause-answers g c =
    let own = c.self.inside in
    let left = g.S.Source.left c.args.source.now in
    let still = g.S.Source.left c.work_round.new.source in
    let reader = c.work_round.new.reader in
    let worked = c.in_ok-works.field-0 in
    let works = worked.works.items in
    let refused = c.batches_of-made.new.refused.items in
    let before : Batching = reader_at own.prefer own.library own.reader own.frames own.refused.items in
    let now : Batching = reader_at own.prefer own.library reader (own.frames + c.frame_count.result) refused in
    let count : c.frame_count.result ≡ length (frames_of works) = c.frame_count.ensures ∙ ap (λ (ws : List Work). length (frames_of ws)) c.as_slice.ensures.value in
    let cuts : (cut : Result Bool Stop) → worked.cut ≡ cut → CutsRound cut (own.frames + 1) own.reader left reader still works =
    λ cut is. subst (λ (answer : Result Bool Stop). CutsRound answer (own.frames + 1) own.reader left reader still works) is c.in_ok-works.ensures.cut in
    let says : (answer : Result Round Stop) → c.match-cut.result ≡ answer → RoundAnswers answer before left now still
    → RoundAnswers c.match-cut.result c.args.self.now left now still =
    λ answer is answers. subst (λ (r : Result Round Stop). RoundAnswers r c.args.self.now left now still) (sym is)
    (subst (λ (a : Batching). RoundAnswers answer a left now still) c.self.view_is answers) in
    elim c.match-cut.branch [
      | in-Ok+in_ok-made-in-Ok w ↦
          let cut = cuts (Ok w.in-Ok.ended) w.in-Ok.is in
          let given = w.in_ok-made-in-Ok.ensures.given in
          let batches = w.in_ok-made-in-Ok.field-0 in
          let round : Round = record { batches = batches; ended = w.in-Ok.ended } in
          let hands = subst (λ k. HandsRound before left (reader_at own.prefer own.library reader k refused) still batches.items) (ap (λ k. own.frames + k) (sym count))
          (given.given own.frames own.reader reader left still cut.numbered (cut-whole w.in-Ok.ended own.reader reader left still works cut.answers)) in
          says (Ok round) w.result-is (is-round before now (own.frames + 1) left still works w.in-Ok.ended round cut hands refl given.few)
      | in-Err+in-TooLong+in_ok-made-in-TooLong w ↦
          let cut = cuts (Err TooLong) (w.in-Err.is ∙ ap Err w.in-TooLong.is) in
          says (Err TooLong) w.result-is
          (stops-long round_size before now left still (frames_of works) cut.answers (w.in_ok-made-in-TooLong.ensures.given.refuses (own.frames + 1) cut.numbered))
      | in-Err+in-Failed w ↦
          let cut = cuts (Err Failed) (w.in-Err.is ∙ ap Err w.in-Failed.is) in
          says (Err Failed) w.result-is
          (stops-failed round_size before now left still (frames_of works) cut.most cut.answers (c.batches_of-made.ensures.kept (own.frames + 1) cut.numbered))
      | in-Err+in-Memory w ↦
          let cut = cuts (Err Memory) (w.in-Err.is ∙ ap Err w.in-Memory.is) in
          says (Err Memory) w.result-is
          (stops-both round_size Memory before now left still (frames_of works) cut.most cut.answers (c.batches_of-made.ensures.kept (own.frames + 1) cut.numbered))
    ]
