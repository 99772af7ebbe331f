use Rattle.std.proofs.Common.{◌≡◌, true, false, sym, ap, ◌∙◌, arith}
use Rattle.std.specs.Prelude.{is_some}
use Rattle.turn_plans.specs.Histories.{is_current}
use Rattle.turn_plans.proofs.PlanLaws.{current-from_place}
use Rattle.turn_plans.proofs.LeavingLaws.{plan-unnamed}
use Rattle.turn_plans.proofs.prepared.withdraw_current.Goals as goal

pub returns-in-Some-clause-cost : goal.returns-in-Some-clause-cost
returns-in-Some-clause-cost g c = λ all number p is r. c.withdraw.ensures.cost all number p r

pub returns-in-None-clause-planned : goal.returns-in-None-clause-planned
returns-in-None-clause-planned g c = λ all p.
    let gone : is_current all c.args.id.now ≡ false = sym (current-from_place p c.args.id.now) ∙ ap is_some (sym c.place_of.ensures ∙ c.in-None.is) in
    plan-unnamed p c.args.id.now gone

pub returns-in-Some-clause-planned : goal.returns-in-Some-clause-planned
returns-in-Some-clause-planned g c = c.withdraw.ensures.planned

pub returns-in-Some-clause-free : goal.returns-in-Some-clause-free
returns-in-Some-clause-free g c = λ all p new.
    let is : is_current all c.args.id.now ≡ true = sym (current-from_place p c.args.id.now) ∙ ap is_some (sym c.place_of.ensures ∙ c.in-Some.is) in
    let clash : true ≡ false = sym is ∙ new in
    absurd cc

pub returns-in-None-clause-free : goal.returns-in-None-clause-free
returns-in-None-clause-free g c = λ all p new. omega arith

pub returns-in-None-clause-cost : goal.returns-in-None-clause-cost
returns-in-None-clause-cost g c = λ all number p is r. omega arith
