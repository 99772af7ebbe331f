use Rattle.std.proofs.Common.{cond, sym, ap, ◌∙◌}
use Rattle.std.specs.Prelude.{is_some}
use Rattle.catalogue_editions.specs.declared.outcome.Outcome.TheVariants.{Added, Replaced, Removed, Absent}
use Rattle.catalogue_tests.proofs.PlainLaws.{loaded, load-came, withdrawn, withdrawal-came}
use Rattle.catalogue_tests.proofs.plain_catalogue.follow.Goals as goal

pub returns-in-Some-clause-records : goal.returns-in-Some-clause-records
returns-in-Some-clause-records c =
    loaded c.args.library.now c.args.records.now.entries c.insert.new.self.entries c.args.op.now c.in-Load.edition c.in_ok-copied-in-Load.field-0 c.in_ok-id-in-Load.id
    c.in-Load.is (c.in_ok-id-in-Load.ensures ∙ c.least.ensures) c.in_ok-copied-in-Load.ensures c.in_ok-insert-in-Load.ensures.entries

pub returns-in-Load-clause-records : goal.returns-in-Load-clause-records
returns-in-Load-clause-records c =
    loaded c.args.library.now c.args.records.now.entries c.insert.new.self.entries c.args.op.now c.in-Load.edition c.in_ok-copied-in-Load.field-0 c.in_ok-id-in-Load.id
    c.in-Load.is (c.in_ok-id-in-Load.ensures ∙ c.least.ensures) c.in_ok-copied-in-Load.ensures c.in_ok-insert-in-Load.ensures.entries

pub returns-in-Some-clause-outcome : goal.returns-in-Some-clause-outcome
returns-in-Some-clause-outcome c =
    ap (λ o. cond (is_some o) Replaced Added) (sym c.in-Some.is)
    ∙ load-came c.args.library.now c.args.records.now.entries c.args.op.now c.in-Load.edition c.in_ok-id-in-Load.id c.in_ok-insert-in-Load.field-0
    c.in-Load.is (c.in_ok-id-in-Load.ensures ∙ c.least.ensures) c.in_ok-insert-in-Load.ensures.old

pub returns-in-Load-clause-outcome : goal.returns-in-Load-clause-outcome
returns-in-Load-clause-outcome c =
    ap (λ o. cond (is_some o) Replaced Added) (sym c.in-None.is)
    ∙ load-came c.args.library.now c.args.records.now.entries c.args.op.now c.in-Load.edition c.in_ok-id-in-Load.id c.in_ok-insert-in-Load.field-0
    c.in-Load.is (c.in_ok-id-in-Load.ensures ∙ c.least.ensures) c.in_ok-insert-in-Load.ensures.old

pub returns-in-Some-remove-clause-records : goal.returns-in-Some-remove-clause-records
returns-in-Some-remove-clause-records c =
    withdrawn c.args.library.now c.args.records.now.entries c.remove.new.self.entries c.args.op.now c.in-Withdraw.control c.in_ok-copied-in-Withdraw.field-0
    c.in-Withdraw.is c.in_ok-copied-in-Withdraw.ensures c.remove.ensures.entries

pub returns-clause-records : goal.returns-clause-records
returns-clause-records c =
    withdrawn c.args.library.now c.args.records.now.entries c.remove.new.self.entries c.args.op.now c.in-Withdraw.control c.in_ok-copied-in-Withdraw.field-0
    c.in-Withdraw.is c.in_ok-copied-in-Withdraw.ensures c.remove.ensures.entries

pub returns-in-Some-remove-clause-outcome : goal.returns-in-Some-remove-clause-outcome
returns-in-Some-remove-clause-outcome c =
    ap (λ o. cond (is_some o) Removed Absent) (sym c.in-Some-remove.is)
    ∙ withdrawal-came c.args.library.now c.args.records.now.entries c.args.op.now c.in-Withdraw.control c.in_ok-copied-in-Withdraw.field-0 c.remove.result
    c.in-Withdraw.is c.in_ok-copied-in-Withdraw.ensures c.remove.ensures.value

pub returns-clause-outcome : goal.returns-clause-outcome
returns-clause-outcome c =
    ap (λ o. cond (is_some o) Removed Absent) (sym c.in-None-remove.is)
    ∙ withdrawal-came c.args.library.now c.args.records.now.entries c.args.op.now c.in-Withdraw.control c.in_ok-copied-in-Withdraw.field-0 c.remove.result
    c.in-Withdraw.is c.in_ok-copied-in-Withdraw.ensures c.remove.ensures.value
