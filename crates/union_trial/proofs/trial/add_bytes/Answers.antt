use Rattle.std.proofs.Common.{append_assoc}
use Rattle.library_batches.specs.Reports.{counted}
use Rattle.union_trial.proofs.trial.add_bytes.Goals as goal

pub returns : goal.returns
unfolding counted
returns c =
    rw (c.in_ok-extend_from_slice-2.ensures.items, c.as_bytes.ensures.value, c.format.ensures.text, c.in_ok-extend_from_slice.ensures.items) (simp append_assoc)
