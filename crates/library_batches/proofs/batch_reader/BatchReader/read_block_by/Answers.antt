use Rattle.std.proofs.Common.{◌+◌, subst, arith}
use Rattle.std.proofs.lemmas.Result.{err_from_is_err_and}
use Rattle.std.specs.Prelude.{Err}
use Rattle.library_batches.specs.Batches.{block_size}
use Rattle.library_batches.specs.Blocks.{IsBlock, IsChecked, StopsBlock, BlockAnswers, AnswersCut}
use Rattle.library_batches.specs.Reading.{Batching, IsLostBySeveral}
use Rattle.library_batches.specs.Shares.{KeepsFront}
use Rattle.library_batches.specs.declared.block.Block.{Block}
use Rattle.library_batches.specs.declared.stop.Stop.TheVariants.{TooLong, Failed, Memory}
use Rattle.library_batches.proofs.StopLaws.{stops-long, stops-failed, stops-checking, stops-both}
use Rattle.library_batches.proofs.batch_reader.BatchReader.read_block_by.Goals as goal

pub returns-in-Ok-clause-answers : goal.returns-in-Ok-clause-answers
returns-in-Ok-clause-answers g c =
    let own = c.self.inside in
    let left = g.S.Source.left c.args.source.now in
    let still = g.S.Source.left c.cut_block-cut.new.source in
    let cut = c.in-Ok.ensures.answers in
    let ops = c.in_ok-checked-in-Ok.field-0 in
    let now : Batching = record { prefer = own.prefer; library = own.library; stream = c.cut_block-cut.new.reader; frames = own.frames + c.len.result; refused = c.check_by_workers-checked.new.refused.items } in
    let block : Block = record { ops = ops; ended = c.in-Ok.ended } in
    subst (λ (a : Batching). IsBlock a left now still block) c.self.view_is
    (record {
      taken = c.cut_block-cut.new.frames.items;
      takes = cut.0;
      checked = subst (λ fs. IsChecked own.prefer own.library (own.frames + 1) fs ops.items own.refused.items c.check_by_workers-checked.new.refused.items)
          c.as_slice.ensures.value c.in_ok-checked-in-Ok.ensures.checked;
      frames = omega (arith, c.len.ensures, c.cut_block-cut.new.frames.ok);
      most = c.cut_block-cut.ensures.most;
      full = cut.1;
      fewer = c.cut_block-cut.ensures.fewer;
    })

pub returns-in_err-checked-in-Ok-clause-answers : goal.returns-in_err-checked-in-Ok-clause-answers
returns-in_err-checked-in-Ok-clause-answers g c =
    let own = c.self.inside in
    let left = g.S.Source.left c.args.source.now in
    let still = g.S.Source.left c.cut_block-cut.new.source in
    let frames = c.cut_block-cut.new.frames.items in
    let before : Batching = record { prefer = own.prefer; library = own.library; stream = own.reader; frames = own.frames; refused = own.refused.items } in
    let now : Batching = record { prefer = own.prefer; library = own.library; stream = c.cut_block-cut.new.reader; frames = own.frames + c.len.result; refused = c.check_by_workers-checked.new.refused.items } in
    let front = subst (λ fs. KeepsFront (own.frames + 1) fs own.refused.items c.check_by_workers-checked.new.refused.items) c.as_slice.ensures.value
    c.check_by_workers-checked.ensures.kept in
    let p = err_from_is_err_and c.from_residual.result c.from_residual.ensures.1 in
    rw (p.1, p.2)
    (subst (λ (a : Batching). StopsBlock (IsLostBySeveral Memory) a left now still) c.self.view_is
    (stops-checking block_size before now left still frames c.cut_block-cut.ensures.most c.in-Ok.ensures.answers.0 front))

pub returns-in_err-checked-in-TooLong-clause-answers : goal.returns-in_err-checked-in-TooLong-clause-answers
returns-in_err-checked-in-TooLong-clause-answers g c =
    let own = c.self.inside in
    let left = g.S.Source.left c.args.source.now in
    let still = g.S.Source.left c.cut_block-cut.new.source in
    let frames = c.cut_block-cut.new.frames.items in
    let before : Batching = record { prefer = own.prefer; library = own.library; stream = own.reader; frames = own.frames; refused = own.refused.items } in
    let now : Batching = record { prefer = own.prefer; library = own.library; stream = c.cut_block-cut.new.reader; frames = own.frames + c.len.result; refused = c.check_by_workers-checked.new.refused.items } in
    let cut = subst (λ s. AnswersCut (Err s) own.reader left c.cut_block-cut.new.reader still frames) c.in-TooLong.is c.in-Err.ensures.answers in
    let front = subst (λ fs. KeepsFront (own.frames + 1) fs own.refused.items c.check_by_workers-checked.new.refused.items) c.as_slice.ensures.value
    c.check_by_workers-checked.ensures.kept in
    let p = err_from_is_err_and c.from_residual-in_err-checked-in-TooLong.result c.from_residual-in_err-checked-in-TooLong.ensures.1 in
    rw (p.1, p.2)
    (subst (λ (a : Batching). StopsBlock (IsLostBySeveral Memory) a left now still) c.self.view_is
    (stops-both block_size TooLong before now left still frames c.cut_block-cut.ensures.most cut front))

pub returns-in-TooLong-clause-answers : goal.returns-in-TooLong-clause-answers
returns-in-TooLong-clause-answers g c =
    let own = c.self.inside in
    let left = g.S.Source.left c.args.source.now in
    let still = g.S.Source.left c.cut_block-cut.new.source in
    let frames = c.cut_block-cut.new.frames.items in
    let before : Batching = record { prefer = own.prefer; library = own.library; stream = own.reader; frames = own.frames; refused = own.refused.items } in
    let now : Batching = record { prefer = own.prefer; library = own.library; stream = c.cut_block-cut.new.reader; frames = own.frames + c.len.result; refused = c.check_by_workers-checked.new.refused.items } in
    let cut = subst (λ s. AnswersCut (Err s) own.reader left c.cut_block-cut.new.reader still frames) c.in-TooLong.is c.in-Err.ensures.answers in
    let refused = subst (λ fs. IsChecked own.prefer own.library (own.frames + 1) fs c.in_ok-checked-in-TooLong.field-0.items own.refused.items c.check_by_workers-checked.new.refused.items)
    c.as_slice.ensures.value c.in_ok-checked-in-TooLong.ensures.checked in
    subst (λ (a : Batching). BlockAnswers IsLostBySeveral (Err TooLong) a left now still) c.self.view_is
    (stops-long block_size before now left still frames cut refused.refused)

pub returns-in-Failed-clause-answers : goal.returns-in-Failed-clause-answers
returns-in-Failed-clause-answers g c =
    let own = c.self.inside in
    let left = g.S.Source.left c.args.source.now in
    let still = g.S.Source.left c.cut_block-cut.new.source in
    let frames = c.cut_block-cut.new.frames.items in
    let before : Batching = record { prefer = own.prefer; library = own.library; stream = own.reader; frames = own.frames; refused = own.refused.items } in
    let now : Batching = record { prefer = own.prefer; library = own.library; stream = c.cut_block-cut.new.reader; frames = own.frames + c.len.result; refused = c.check_by_workers-checked.new.refused.items } in
    let cut = subst (λ s. AnswersCut (Err s) own.reader left c.cut_block-cut.new.reader still frames) c.in-Failed.is c.in-Err.ensures.answers in
    let front = subst (λ fs. KeepsFront (own.frames + 1) fs own.refused.items c.check_by_workers-checked.new.refused.items) c.as_slice.ensures.value
    c.check_by_workers-checked.ensures.kept in
    subst (λ (a : Batching). StopsBlock (IsLostBySeveral Failed) a left now still) c.self.view_is
    (stops-failed block_size before now left still frames c.cut_block-cut.ensures.most cut front)

pub returns-clause-answers : goal.returns-clause-answers
returns-clause-answers g c =
    let own = c.self.inside in
    let left = g.S.Source.left c.args.source.now in
    let still = g.S.Source.left c.cut_block-cut.new.source in
    let frames = c.cut_block-cut.new.frames.items in
    let before : Batching = record { prefer = own.prefer; library = own.library; stream = own.reader; frames = own.frames; refused = own.refused.items } in
    let now : Batching = record { prefer = own.prefer; library = own.library; stream = c.cut_block-cut.new.reader; frames = own.frames + c.len.result; refused = c.check_by_workers-checked.new.refused.items } in
    let cut = subst (λ s. AnswersCut (Err s) own.reader left c.cut_block-cut.new.reader still frames) c.in-Memory.is c.in-Err.ensures.answers in
    let front = subst (λ fs. KeepsFront (own.frames + 1) fs own.refused.items c.check_by_workers-checked.new.refused.items) c.as_slice.ensures.value
    c.check_by_workers-checked.ensures.kept in
    subst (λ (a : Batching). StopsBlock (IsLostBySeveral Memory) a left now still) c.self.view_is
    (stops-both block_size Memory before now left still frames c.cut_block-cut.ensures.most cut front)
