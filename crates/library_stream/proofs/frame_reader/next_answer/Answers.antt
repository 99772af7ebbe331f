use Rattle.library_stream.specs.Streaming.{streaming}
use Rattle.library_stream.specs.declared.course.Course.TheVariants.{Passed}
use Rattle.library_stream.proofs.AheadLaws.{Answers-behind}
use Rattle.library_stream.proofs.frame_reader.next_answer.Goals as goal

pub returns-in-Passed-clause-answers : goal.returns-in-Passed-clause-answers
returns-in-Passed-clause-answers g c =
    let before = streaming c.args.cutter.now c.args.piece.now c.args.course in
    let here = streaming c.loop-course.cutter c.loop-course.piece Passed in
    let now = streaming c.passed_answer.new.cutter c.passed_answer.new.piece Passed in
    let left = g.S.Source.left c.loop-course.source in
    Answers-behind c.passed_answer.result before here now (g.S.Source.left c.args.source.now) left left
    (rw c.in-Passed.is at c.loop-course.invariant.ahead) (c.passed_answer.ensures.answers left)
