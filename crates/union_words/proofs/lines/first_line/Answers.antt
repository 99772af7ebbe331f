use Rattle.std.proofs.Common.{arith}
use Rattle.union_words.proofs.LineLaws.{line_at, line_whole}
use Rattle.union_words.proofs.lines.first_line.Goals as goal

pub returns-in-Some : goal.returns-in-Some
returns-in-Some c =
    rw (c.without_return.ensures, c.split_at.ensures.front, c.split_at-in-Some.ensures.back)
    (line_at c.args.text.now c.in-Some.at c.in-Some.ensures.0.high (λ k lt is. c.in-Some.ensures.0.before k (omega arith) lt is) c.in-Some.ensures.1)

pub returns-in-None : goal.returns-in-None
returns-in-None c =
    rw c.without_return-in-None.ensures (line_whole c.args.text.now (λ k lt is. c.in-None.ensures k (omega arith) lt is))
