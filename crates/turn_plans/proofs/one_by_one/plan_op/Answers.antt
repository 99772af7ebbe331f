use Rattle.std.proofs.Common.{subst}
use Rattle.turn_plans.specs.Reaches.{IsReachOfOp}
use Rattle.turn_plans.proofs.one_by_one.plan_op.Goals as goal

pub returns-in-Load-clause-cost : goal.returns-in-Load-clause-cost
returns-in-Load-clause-cost g c = λ all number p r.
    c.plan_load.ensures.cost all number p (subst (λ op. IsReachOfOp c.args.context.now.batch.now.library all op number) c.in-Load.is r)

pub returns-in-Withdraw-clause-cost : goal.returns-in-Withdraw-clause-cost
returns-in-Withdraw-clause-cost g c = λ all number p r.
    c.plan_withdrawal.ensures.cost all number p (subst (λ op. IsReachOfOp c.args.context.now.batch.now.library all op number) c.in-Withdraw.is r)
