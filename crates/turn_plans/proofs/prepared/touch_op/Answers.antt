use Rattle.std.proofs.Common.{true, false, sym, ◌∙◌}
use Rattle.turn_plans.proofs.TouchLaws.{touches-load, touches-withdrawal, found-current, outcome-load, outcome-withdrawal}
use Rattle.turn_plans.proofs.prepared.touch_op.Goals as goal

pub returns-then-is_current-clause-touched : goal.returns-then-is_current-clause-touched
returns-then-is_current-clause-touched c = λ all editions loads t.
    touches-load t c.args.library.now c.args.op.now c.in-Load.field-0 c.in_ok-id.id c.args.place c.insert.new.self.entries c.in-Load.is c.in_ok-id.ensures c.requires.own loads
    c.in_ok-before-in-Load.ensures.entries

pub returns-then-is_current-clause-outcome : goal.returns-then-is_current-clause-outcome
returns-then-is_current-clause-outcome c = λ all editions t.
    outcome-load t c.args.library.now c.args.op.now c.in-Load.field-0 c.in_ok-id.id true c.in-Load.is c.in_ok-id.ensures
    (sym c.if-is_current.true ∙ found-current t c.in_ok-id.id c.in_ok-before-in-Load.before c.get-home.result c.is_current.result c.in_ok-before-in-Load.ensures.old c.get-home.ensures c.is_current.ensures)

pub returns-else-is_current-clause-touched : goal.returns-else-is_current-clause-touched
returns-else-is_current-clause-touched c = λ all editions loads t.
    touches-load t c.args.library.now c.args.op.now c.in-Load.field-0 c.in_ok-id.id c.args.place c.insert.new.self.entries c.in-Load.is c.in_ok-id.ensures c.requires.own loads
    c.in_ok-before-in-Load.ensures.entries

pub returns-else-is_current-clause-outcome : goal.returns-else-is_current-clause-outcome
returns-else-is_current-clause-outcome c = λ all editions t.
    outcome-load t c.args.library.now c.args.op.now c.in-Load.field-0 c.in_ok-id.id false c.in-Load.is c.in_ok-id.ensures
    (sym c.if-is_current.false ∙ found-current t c.in_ok-id.id c.in_ok-before-in-Load.before c.get-home.result c.is_current.result c.in_ok-before-in-Load.ensures.old c.get-home.ensures c.is_current.ensures)

pub returns-then-is_current-2-clause-touched : goal.returns-then-is_current-2-clause-touched
returns-then-is_current-2-clause-touched c = λ all editions loads t.
    touches-withdrawal t c.args.library.now c.args.op.now c.in-Withdraw.field-0 c.in_ok-id.id c.insert-in-Withdraw.new.self.entries c.in-Withdraw.is c.in_ok-id.ensures
    c.in_ok-before-in-Withdraw.ensures.entries

pub returns-then-is_current-2-clause-outcome : goal.returns-then-is_current-2-clause-outcome
returns-then-is_current-2-clause-outcome c = λ all editions t.
    outcome-withdrawal t c.args.library.now c.args.op.now c.in-Withdraw.field-0 c.in_ok-id.id true c.in-Withdraw.is c.in_ok-id.ensures
    (sym c.if-is_current-2.true ∙ found-current t c.in_ok-id.id c.in_ok-before-in-Withdraw.before c.get-home.result c.is_current-in-Withdraw.result c.in_ok-before-in-Withdraw.ensures.old c.get-home.ensures c.is_current-in-Withdraw.ensures)

pub returns-else-is_current-2-clause-touched : goal.returns-else-is_current-2-clause-touched
returns-else-is_current-2-clause-touched c = λ all editions loads t.
    touches-withdrawal t c.args.library.now c.args.op.now c.in-Withdraw.field-0 c.in_ok-id.id c.insert-in-Withdraw.new.self.entries c.in-Withdraw.is c.in_ok-id.ensures
    c.in_ok-before-in-Withdraw.ensures.entries

pub returns-else-is_current-2-clause-outcome : goal.returns-else-is_current-2-clause-outcome
returns-else-is_current-2-clause-outcome c = λ all editions t.
    outcome-withdrawal t c.args.library.now c.args.op.now c.in-Withdraw.field-0 c.in_ok-id.id false c.in-Withdraw.is c.in_ok-id.ensures
    (sym c.if-is_current-2.false ∙ found-current t c.in_ok-id.id c.in_ok-before-in-Withdraw.before c.get-home.result c.is_current-in-Withdraw.result c.in_ok-before-in-Withdraw.ensures.old c.get-home.ensures c.is_current-in-Withdraw.ensures)
