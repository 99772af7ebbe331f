use Rattle.std.proofs.Common.{sym, subst, Option}
use Rattle.std.specs.Prelude.{⊤}
use Rattle.marc_fields.specs.Rows.{Checks}
use Rattle.marc_fields.specs.declared.rules.Failure.{Failure}
use Rattle.marc_rules.proofs.RequiredLaws.{number_failure-control, number_failure-deleted, number_failure-load}
use Rattle.marc_rules.proofs.required_fields.check_numbers.Goals as goal

pub returns-in-Some : goal.returns-in-Some
returns-in-Some c = number_failure-control c.args.status c.args.bytes.now c.args.entries.now c.in-Some.place (sym c.in-Some.ensures)

pub returns-then-status-eq-DELETED : goal.returns-then-status-eq-DELETED
returns-then-status-eq-DELETED c = (number_failure-deleted c.args.status c.args.bytes.now c.args.entries.now (sym c.in_default.ensures) c.if-status-eq-DELETED.true, tt)

pub returns : goal.returns
returns c =
    let Is : Option Failure → Type 0 = λ failure. Checks c.check_load.result failure (λ u. ⊤) in
    subst Is (sym (number_failure-load c.args.status c.args.bytes.now c.args.entries.now (sym c.in_default.ensures) c.if-status-eq-DELETED.false)) c.check_load.ensures
