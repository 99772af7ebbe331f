use Rattle.marc_fields.proofs.DecodingLaws.{refusal-of, refusal-first}
use Rattle.marc_rules.specs.NineteenRules.{whole_failure}
use Rattle.marc_rules.proofs.check.check_whole.Goals as goal

pub returns-in-Ok-check_behind : goal.returns-in-Ok-check_behind
unfolding whole_failure
returns-in-Ok-check_behind c =
    (rw c.in-Ok.ensures.0 c.in-Ok-check_behind.ensures.0, record { front = c.in-Ok.ensures.1; sound = c.in-Ok-check_behind.ensures.1 })

pub returns-in-Err-check_behind : goal.returns-in-Err-check_behind
unfolding whole_failure
returns-in-Err-check_behind c = rw c.in-Ok.ensures.0 c.in-Err-check_behind.ensures

pub returns-in-Err : goal.returns-in-Err
unfolding whole_failure
returns-in-Err c =
    refusal-first c.from.result _ _ (refusal-of c.from.result c.in-Err.failure _ c.from.ensures c.in-Err.ensures)
