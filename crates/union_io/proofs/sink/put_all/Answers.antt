-- A failed write leaves a prefix of the text written, and a write that took something leaves its rest to come.
use Rattle.std.proofs.Common.{rules, ◌∙◌}
use Rattle.union_io.proofs.Writes.{front_written, written_more}
use Rattle.union_io.proofs.sink.put_all.Goals as goal

pub returns-in_err-taken-clause-front : goal.returns-in_err-taken-clause-front
returns-in_err-taken-clause-front g c =
    let front = front_written _ _ _ _ _ c.loop-rest.invariant.0 c.in_err-taken.ensures.bytes in search rules

pub loop-rest-preserved : goal.loop-rest-preserved
loop-rest-preserved g c = (
  rw c.split_at.ensures.back (written_more _ _ _ _ _ c.in_ok-taken.taken c.loop-rest.invariant.0 c.in_ok-taken.ensures.bytes),
  c.in_ok-taken.ensures.cause.cause ∙ c.loop-rest.invariant.1,
)
