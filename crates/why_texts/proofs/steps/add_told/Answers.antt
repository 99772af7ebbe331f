use Rattle.std.proofs.Common.{append_assoc}
use Rattle.why_texts.specs.Steps.{told_step}
use Rattle.why_texts.proofs.steps.add_told.Goals as goal

pub returns : goal.returns
unfolding told_step
returns c = rw (c.in_ok-add_sources.ensures, c.in_ok-add_step.ensures) (simp append_assoc)
