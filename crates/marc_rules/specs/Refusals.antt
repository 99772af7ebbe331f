-- What an answer on a frame says.
use Rattle.std.specs.Prelude.{◌≡◌, Option, None, Some, Result, MatchResult}
use Rattle.marc_fields.specs.declared.rules.Failure.{Failure}
use Rattle.marc_rules.specs.declared.check.Refusal.{Refusal}
use Rattle.marc_rules.specs.declared.check.Refusal.TheVariants.{Rule as RuleRefusal, Memory}

-- the refusal is that failure, or lack of memory
abbrev pub IsFrameRefusal : Refusal → Option Failure → Type 0
IsFrameRefusal (RuleRefusal rule place) failure = failure ≡ Some (record { rule = rule; place = place })
IsFrameRefusal Memory failure = Unit {0}

-- the answer is a value where nothing fails, else a refusal that names the failure
abbrev pub AnswersFrame : {T : Type 0} → Result T Refusal → Option Failure → (T → Type 0) → Type 0
AnswersFrame result failure P = MatchResult result (λ value. (failure ≡ None) × P value) (λ refusal. IsFrameRefusal refusal failure)
