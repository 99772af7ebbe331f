use Rattle.std.proofs.Common.{◌≡◌, ◌++◌, ◌∷◌, [], true, false, sym, ap, subst, ◌∙◌, arith}
use Rattle.std.specs.Prelude.{is_some}
use Rattle.std.specs.Map.{remove_entry, values_of}
use Rattle.union_base.specs.declared.record_id.RecordId.{RecordId}
use Rattle.turn_plans.specs.Histories.{is_current}
use Rattle.turn_plans.specs.Keeping.{batches}
use Rattle.turn_plans.specs.Plans.{IsPlanned}
use Rattle.turn_plans.specs.Reaches.{IsReachOfWithdrawal}
use Rattle.turn_plans.proofs.Growing.{remove-none}
use Rattle.record_homes.proofs.MapLaws.{same}
use Rattle.turn_plans.proofs.PlanLaws.{current-from_place, withdrawal-paid}
use Rattle.turn_plans.proofs.one_by_one.plan_withdrawal.Goals as goal

pub returns-in_err-copied-clause-cost : goal.returns-in_err-copied-clause-cost
returns-in_err-copied-clause-cost g c = λ all number p r. omega arith

pub returns-clause-cost : goal.returns-clause-cost
returns-clause-cost g c = λ all number p r. omega arith

pub returns-in_err-next-in-Some-clause-cost : goal.returns-in_err-next-in-Some-clause-cost
returns-in_err-next-in-Some-clause-cost g c = λ all number p r.
    let id : RecordId = record { library = c.args.context.now.batch.now.library; control = c.in_ok-copied.field-0 } in
    let is : is_current all id ≡ true = sym (current-from_place p id) ∙ ap is_some (sym c.place_of.ensures ∙ c.in-Some.is) in
    c.withdraw.ensures.cost all number p
    (subst (λ control. is_current all (record { library = c.args.context.now.batch.now.library; control = control }) ≡ true → IsReachOfWithdrawal (values_of all) (record { library = c.args.context.now.batch.now.library; control = control }) number)
    (sym c.in_ok-copied.ensures) (λ is'. withdrawal-paid c.args.context.now.batch.now.library all c.args.control.now number is' r) is)

pub returns-in-Some-clause-cost : goal.returns-in-Some-clause-cost
returns-in-Some-clause-cost g c = λ all number p r.
    let id : RecordId = record { library = c.args.context.now.batch.now.library; control = c.in_ok-copied.field-0 } in
    let is : is_current all id ≡ true = sym (current-from_place p id) ∙ ap is_some (sym c.place_of.ensures ∙ c.in-Some.is) in
    c.withdraw.ensures.cost all number p
    (subst (λ control. is_current all (record { library = c.args.context.now.batch.now.library; control = control }) ≡ true → IsReachOfWithdrawal (values_of all) (record { library = c.args.context.now.batch.now.library; control = control }) number)
    (sym c.in_ok-copied.ensures) (λ is'. withdrawal-paid c.args.context.now.batch.now.library all c.args.control.now number is' r) is)

pub returns-in-Some-clause-planned : goal.returns-in-Some-clause-planned
returns-in-Some-clause-planned g c = λ all p.
    let next = c.in_ok-next-in-Some.next in
    subst (λ control. IsPlanned (batches c.args.context.now.history.now ++ c.args.context.now.batch.now ∷ []) c.args.context.now.homes.now.entries c.args.context.now.blocks.now.blocks
    (remove_entry (same (record { library = c.args.context.now.batch.now.library; control = control })) all) next.change.closed.items next.change.opened.items next.touched.entries)
    c.in_ok-copied.ensures (c.in_ok-next-in-Some.ensures.planned all p)

pub returns-clause-planned : goal.returns-clause-planned
returns-clause-planned g c = λ all p.
    let id : RecordId = record { library = c.args.context.now.batch.now.library; control = c.in_ok-copied.field-0 } in
    let new : is_current all id ≡ false = sym (current-from_place p id) ∙ ap is_some (sym c.place_of.ensures ∙ c.in-None.is) in
    let same-all = remove-none all (same id) new in
    subst (λ control. IsPlanned (batches c.args.context.now.history.now ++ c.args.context.now.batch.now ∷ []) c.args.context.now.homes.now.entries c.args.context.now.blocks.now.blocks
    (remove_entry (same (record { library = c.args.context.now.batch.now.library; control = control })) all) c.args.plan.change.closed.items c.args.plan.change.opened.items c.args.plan.touched.entries)
    c.in_ok-copied.ensures (rw same-all p)
