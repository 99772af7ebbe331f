-- the lines of the steps that are left go on with those that were added
use Rattle.std.proofs.Common.{◌≡◌, ◌+◌, ◌++◌, drop}
use Rattle.why_texts.specs.Steps.{steps_text}
use Rattle.why_texts.proofs.steps.add_steps.Given as goal

abbrev pub invariant-loop-i : goal.invariant-loop-i
invariant-loop-i l = l.text.items ++ steps_text l.records (l.i + 1) (drop l.i l.steps) ≡ l.initial.text.items ++ steps_text l.records 1 l.steps
