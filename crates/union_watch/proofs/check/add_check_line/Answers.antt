use Rattle.std.proofs.Common.{append_assoc}
use Rattle.library_batches.specs.Reports.{check_line}
use Rattle.union_watch.proofs.check.add_check_line.Goals as goal

pub returns : goal.returns
unfolding check_line
returns c =
    rw (
      c.in_ok-push.ensures.items,
      c.in_ok-add_counted-4.ensures,
      c.as_slice.ensures.value,
      c.in_ok-add_counted-3.ensures,
      c.in_ok-add_counted-2.ensures,
      c.in_ok-add_counted.ensures,
      c.in_ok-extend_from_slice.ensures.items,
    )
    (simp append_assoc)
