use Rattle.std.proofs.Common.{◌≡◌, sym, ap, subst, ◌∙◌}
use Rattle.std.specs.Map.{values_of}
use Rattle.union_base.specs.declared.record_id.RecordId.{RecordId}
use Rattle.turn_plans.specs.Histories.{id_of, is_current}
use Rattle.turn_plans.specs.Reaches.{IsReachOfWithdrawal}
use Rattle.turn_plans.proofs.prepared.withdraw_named.Goals as goal

pub returns-in-Load-clause-cost : goal.returns-in-Load-clause-cost
returns-in-Load-clause-cost g c = λ all number p is reach.
    let named : id_of c.args.context.now.batch.now.library c.args.op.now ≡ c.least.result.now = ap (id_of c.args.context.now.batch.now.library) c.in-Load.is ∙ sym c.least.ensures in
    c.withdraw_current.ensures.cost all number p (ap (is_current all) (sym named) ∙ is) (subst (λ (id : RecordId). IsReachOfWithdrawal (values_of all) id number) named reach)

pub returns-in_ok-id-in-Withdraw-clause-cost : goal.returns-in_ok-id-in-Withdraw-clause-cost
returns-in_ok-id-in-Withdraw-clause-cost g c = λ all number p is reach.
    let named : id_of c.args.context.now.batch.now.library c.args.op.now ≡ c.in_ok-id-in-Withdraw.id = sym c.in_ok-id-in-Withdraw.ensures in
    c.withdraw_current-in-Withdraw.ensures.cost all number p (ap (is_current all) (sym named) ∙ is) (subst (λ (id : RecordId). IsReachOfWithdrawal (values_of all) id number) named reach)
