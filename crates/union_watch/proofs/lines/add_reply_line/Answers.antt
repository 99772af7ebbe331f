use Rattle.std.proofs.Common.{append_assoc}
use Rattle.union_watch.specs.Told.{reply_line}
use Rattle.union_watch.proofs.lines.add_reply_line.Goals as goal

pub returns : goal.returns
unfolding reply_line
returns c =
    rw (
      c.in_ok-push-2.ensures.items,
      c.in_ok-add_shown.ensures,
      c.in_ok-push.ensures.items,
      c.in_ok-add_six_digits.ensures,
      c.in_ok-extend_from_slice.ensures.items,
    )
    (simp append_assoc)
