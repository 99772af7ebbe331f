use Rattle.std.proofs.Common.{Ok, ap, ◌∙◌}
use Rattle.library_stream.proofs.StepLaws.{Answers-last, waits}
use Rattle.library_stream.proofs.frame_reader.step.Goals as goal

pub returns-in-Ok-Ended-clause-answers : goal.returns-in-Ok-Ended-clause-answers
returns-in-Ok-Ended-clause-answers g c =
    let unread = c.args.piece.now in
    let before = c.args.cutter.now in
    let now = c.cut_unread.new.cutter in
    Answers-last _ _ before now c.last_answer.new.cutter unread c.read_within.new.piece c.args.room c.last_answer.result
    (waits before now unread c.cut_unread.new.piece c.cut_unread.result c.cut_unread.ensures.frames c.in-None.is (c.cut_unread.ensures.none c.in-None.is))
    (rw c.in-Ok-Ended.field-0-is at c.in-Ok-Ended.ensures.given)
    (c.read_within.ensures.end (c.in-Ok-Ended.is ∙ ap (λ course. Ok course) c.in-Ok-Ended.field-0-is))
    (ap (λ x. x.frame) c.last_answer.ensures.fresh)
    c.last_answer.ensures.frames
