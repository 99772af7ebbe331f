use Rattle.std.proofs.Common.{sym, subst, Option}
use Rattle.std.specs.Prelude.{⊤}
use Rattle.marc_fields.specs.Rows.{Checks}
use Rattle.marc_fields.specs.declared.rules.Failure.{Failure}
use Rattle.marc_rules.proofs.RequiredLaws.{content_failure-status, content_failure-coding}
use Rattle.marc_rules.proofs.contents.check_content.Goals as goal

pub returns-then-not-is_status_code : goal.returns-then-not-is_status_code
returns-then-not-is_status_code c =
    content_failure-status c.args.status c.args.coding c.args.bytes.now c.args.entries.now (sym c.if-not-is_status_code.ensures)

pub returns : goal.returns
returns c =
    let Is : Option Failure → Type 0 = λ failure. Checks c.check_coding.result failure (λ u. ⊤) in
    subst Is (sym (content_failure-coding c.args.status c.args.coding c.args.bytes.now c.args.entries.now (sym c.if-not-is_status_code.ensures))) c.check_coding.ensures
