use Rattle.std.proofs.Common.{◌≡◌, length}
use Rattle.std.specs.Prelude.{find}
use Rattle.edition_doubts.specs.DoubtfulSteps.{is_doubtful_step}
use Rattle.edition_doubts.proofs.steps.doubtful_step.Given as goal

-- the steps that are left decide
abbrev pub invariant-loop-step : goal.invariant-loop-step
invariant-loop-step l = find (is_doubtful_step l.records) l.fn.steps ≡ find (is_doubtful_step l.records) l.left

abbrev pub decreases-loop-step : goal.decreases-loop-step
decreases-loop-step l = length l.left
