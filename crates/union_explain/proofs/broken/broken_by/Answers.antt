use Rattle.std.proofs.Common.{sym, ap, subst, ◌∙◌}
use Rattle.marc_rules.specs.NineteenRules.{first_rule}
use Rattle.marc_rules.specs.Refusals.{IsFrameRefusal}
use Rattle.marc_rules.specs.declared.check.Refusal.TheVariants.{Rule as RuleRefusal}
use Rattle.union_explain.specs.Broken.{cut_in, broken_by}
use Rattle.union_explain.proofs.broken.broken_by.Goals as goal

pub returns-in-Ok : goal.returns-in-Ok
unfolding broken_by
returns-in-Ok c =
    sym c.in-Ok.ensures.0 ∙ (ap (λ cut. first_rule cut c.bytes.result.now) c.cut.ensures.value
    ∙ ap (first_rule (cut_in c.args.frame.now)) c.bytes.ensures)

pub returns-in-Err-Rule : goal.returns-in-Err-Rule
unfolding broken_by
returns-in-Err-Rule c =
    let refused : IsFrameRefusal (RuleRefusal c.in-Err-Rule.rule c.in-Err-Rule.place) (first_rule c.cut.result c.bytes.result.now) =
    subst (λ r. IsFrameRefusal r (first_rule c.cut.result c.bytes.result.now)) c.in-Err-Rule.field-0-is c.in-Err-Rule.ensures in
    sym refused ∙ (ap (λ cut. first_rule cut c.bytes.result.now) c.cut.ensures.value
    ∙ ap (first_rule (cut_in c.args.frame.now)) c.bytes.ensures)
