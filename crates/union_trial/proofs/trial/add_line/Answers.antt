use Rattle.std.proofs.Common.{append_assoc}
use Rattle.union_trial.specs.Trials.{trial_line}
use Rattle.union_trial.proofs.trial.add_line.Goals as goal

pub returns : goal.returns
unfolding trial_line
returns c =
    rw (
      c.in_ok-push.ensures.items,
      c.in_ok-add_bytes.ensures,
      c.in_ok-add_counted-3.ensures,
      c.in_ok-add_counted-2.ensures,
      c.in_ok-add_counted.ensures,
      c.in_ok-extend_from_slice-2.ensures.items,
      c.as_bytes.ensures.value,
      c.format.ensures.text,
      c.in_ok-extend_from_slice.ensures.items,
    )
    (simp append_assoc)
