use Rattle.std.proofs.Common.{arith}
use Rattle.snapshot_desk.proofs.Prefixes.{prefix_more, prefix_taken}
use Rattle.snapshot_desk.proofs.viewer.Viewer.learn.Goals as goal

pub returns-then-self-told-clause-learnt : goal.returns-then-self-told-clause-learnt
returns-then-self-told-clause-learnt c =
    rw (← c.self.view_is) (prefix_more c.self.inside.owed c.told.inside.count c.self.inside.reached.log c.learn.new.self.log c.self.invariant.2 c.learn.ensures.2 (omega (arith, c.if-self-told.true)))

pub returns-clause-told : goal.returns-clause-told
returns-clause-told c =
    rw (← c.told.view_is) (prefix_taken c.self.inside.owed c.told.inside.reached.log c.learn.new.self.log (omega (arith, c.if-self-told.false, c.told.invariant)) c.learn.ensures.3)
