use Rattle.std.proofs.Common.{◌≡◌, ◌++◌, ◌∷◌, [], true, false, cond, sym, ap, subst, ◌∙◌, arith}
use Rattle.std.specs.Prelude.{is_some}
use Rattle.std.specs.Map.{remove_entry, values_of}
use Rattle.turn_plans.specs.Histories.{is_current}
use Rattle.record_homes.specs.Moves.{place_of}
use Rattle.catalogue_editions.specs.Ids.{least}
use Rattle.turn_plans.specs.Keeping.{batches}
use Rattle.turn_plans.specs.Plans.{IsPlanned}
use Rattle.turn_plans.specs.Reaches.{IsReachOfInsertion, IsReachOfWithdrawal}
use Rattle.catalogue_editions.specs.declared.outcome.Outcome.TheVariants.{Replaced, Added}
use Rattle.record_homes.proofs.MapLaws.{same}
use Rattle.turn_plans.proofs.PlanLaws.{current-from_place, not-current, inserted-again, replacement-paid, insertion-paid}
use Rattle.turn_plans.proofs.one_by_one.plan_load.Goals as goal

pub returns-in_err-rest-in-Some-clause-cost : goal.returns-in_err-rest-in-Some-clause-cost
returns-in_err-rest-in-Some-clause-cost g c = λ all number p r.
    let e = c.args.edition.now in
    let is : is_current all (least e) ≡ true =
    sym (current-from_place p (least e)) ∙ ap (λ i. is_some (place_of c.args.context.now.homes.now.entries c.args.plan.touched.entries i)) (sym c.least-id.ensures) ∙ ap is_some (sym c.place_of.ensures ∙ c.in-Some.is) in
    let again = replacement-paid c.args.context.now.batch.now.library all e number is r in
    let first = c.withdraw.ensures.cost all again.first p (subst (λ i. IsReachOfWithdrawal (values_of all) i again.first) (sym c.least-id.ensures) again.withdrawal) in
    let total = again.is in
    omega arith

pub returns-in_err-next-in-Some-clause-cost : goal.returns-in_err-next-in-Some-clause-cost
returns-in_err-next-in-Some-clause-cost g c = λ all number p r.
    let e = c.args.edition.now in
    let is : is_current all (least e) ≡ true =
    sym (current-from_place p (least e)) ∙ ap (λ i. is_some (place_of c.args.context.now.homes.now.entries c.args.plan.touched.entries i)) (sym c.least-id.ensures) ∙ ap is_some (sym c.place_of.ensures ∙ c.in-Some.is) in
    let again = replacement-paid c.args.context.now.batch.now.library all e number is r in
    let first = c.withdraw.ensures.cost all again.first p (subst (λ i. IsReachOfWithdrawal (values_of all) i again.first) (sym c.least-id.ensures) again.withdrawal) in
    let then' = c.insert.ensures.cost (remove_entry (same c.least-id.result.now) all) again.then (c.in_ok-rest-in-Some.ensures.planned all p)
    (subst (λ i. IsReachOfInsertion (values_of (remove_entry (same i) all)) e again.then) (sym c.least-id.ensures) again.insertion) in
    let total = again.is in
    omega arith

pub returns-in_ok-next-in-Some-clause-cost : goal.returns-in_ok-next-in-Some-clause-cost
returns-in_ok-next-in-Some-clause-cost g c = λ all number p r.
    let e = c.args.edition.now in
    let is : is_current all (least e) ≡ true =
    sym (current-from_place p (least e)) ∙ ap (λ i. is_some (place_of c.args.context.now.homes.now.entries c.args.plan.touched.entries i)) (sym c.least-id.ensures) ∙ ap is_some (sym c.place_of.ensures ∙ c.in-Some.is) in
    let again = replacement-paid c.args.context.now.batch.now.library all e number is r in
    let first = c.withdraw.ensures.cost all again.first p (subst (λ i. IsReachOfWithdrawal (values_of all) i again.first) (sym c.least-id.ensures) again.withdrawal) in
    let then' = c.insert.ensures.cost (remove_entry (same c.least-id.result.now) all) again.then (c.in_ok-rest-in-Some.ensures.planned all p)
    (subst (λ i. IsReachOfInsertion (values_of (remove_entry (same i) all)) e again.then) (sym c.least-id.ensures) again.insertion) in
    let total = again.is in
    omega arith

pub returns-in_ok-next-in-Some-clause-planned : goal.returns-in_ok-next-in-Some-clause-planned
returns-in_ok-next-in-Some-clause-planned g c = λ all p.
    let e = c.args.edition.now in
    let rest = c.in_ok-rest-in-Some.rest in
    let q = subst (λ i. IsPlanned (batches c.args.context.now.history.now ++ c.args.context.now.batch.now ∷ []) c.args.context.now.homes.now.entries c.args.context.now.blocks.now.blocks (remove_entry (same i) all)
    rest.change.closed.items rest.change.opened.items rest.touched.entries) c.least-id.ensures (c.in_ok-rest-in-Some.ensures.planned all p) in
    rw (inserted-again p (least e) e) at (c.in_ok-next-in-Some.ensures.planned (remove_entry (same (least e)) all) q (not-current p (least e)))

pub returns-in_ok-next-in-Some-clause-outcome : goal.returns-in_ok-next-in-Some-clause-outcome
returns-in_ok-next-in-Some-clause-outcome g c = λ all p.
    let e = c.args.edition.now in
    let is : is_current all (least e) ≡ true =
    sym (current-from_place p (least e)) ∙ ap (λ i. is_some (place_of c.args.context.now.homes.now.entries c.args.plan.touched.entries i)) (sym c.least-id.ensures) ∙ ap is_some (sym c.place_of.ensures ∙ c.in-Some.is) in
    ap (λ b. cond b Replaced Added) (sym is)

pub returns-in_err-next-in-None-clause-cost : goal.returns-in_err-next-in-None-clause-cost
returns-in_err-next-in-None-clause-cost g c = λ all number p r.
    let e = c.args.edition.now in
    let new : is_current all (least e) ≡ false =
    sym (current-from_place p (least e)) ∙ ap (λ i. is_some (place_of c.args.context.now.homes.now.entries c.args.plan.touched.entries i)) (sym c.least-id.ensures) ∙ ap is_some (sym c.place_of.ensures ∙ c.in-None.is) in
    c.insert-in-None.ensures.cost all number p (insertion-paid c.args.context.now.batch.now.library all e number new r)

pub returns-in_ok-next-in-None-clause-cost : goal.returns-in_ok-next-in-None-clause-cost
returns-in_ok-next-in-None-clause-cost g c = λ all number p r.
    let e = c.args.edition.now in
    let new : is_current all (least e) ≡ false =
    sym (current-from_place p (least e)) ∙ ap (λ i. is_some (place_of c.args.context.now.homes.now.entries c.args.plan.touched.entries i)) (sym c.least-id.ensures) ∙ ap is_some (sym c.place_of.ensures ∙ c.in-None.is) in
    c.insert-in-None.ensures.cost all number p (insertion-paid c.args.context.now.batch.now.library all e number new r)

pub returns-in_ok-next-in-None-clause-planned : goal.returns-in_ok-next-in-None-clause-planned
returns-in_ok-next-in-None-clause-planned g c = λ all p.
    let e = c.args.edition.now in
    let new : is_current all (least e) ≡ false =
    sym (current-from_place p (least e)) ∙ ap (λ i. is_some (place_of c.args.context.now.homes.now.entries c.args.plan.touched.entries i)) (sym c.least-id.ensures) ∙ ap is_some (sym c.place_of.ensures ∙ c.in-None.is) in
    c.in_ok-next-in-None.ensures.planned all p new
