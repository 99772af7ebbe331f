use Rattle.std.proofs.Common.{append_assoc}
use Rattle.why_texts.specs.Steps.{step_text}
use Rattle.why_texts.proofs.steps.add_step.Goals as goal

pub returns : goal.returns
unfolding step_text
returns c =
    rw (
      c.in_ok-extend_from_slice-3.ensures.items,
      c.in_ok-add_reasons.ensures,
      c.features-2.ensures,
      c.features.ensures,
      c.in_ok-add_side-2.ensures,
      c.in_ok-extend_from_slice-2.ensures.items,
      c.in_ok-add_side.ensures,
      c.in_ok-extend_from_slice.ensures.items,
      c.in_ok-add_number.ensures,
    )
    (simp append_assoc)
