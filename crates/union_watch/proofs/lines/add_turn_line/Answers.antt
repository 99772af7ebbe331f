use Rattle.std.proofs.Common.{append_assoc}
use Rattle.union_watch.specs.TurnLines.{turn_text}
use Rattle.union_watch.proofs.lines.add_turn_line.Goals as goal

pub returns : goal.returns
unfolding turn_text
returns c =
    rw (
      c.in_ok-push.ensures.items,
      c.in_ok-add_counted.ensures,
      c.bytes.ensures.value,
      c.as_slice.ensures,
      c.in_ok-add_six_digits.ensures,
      c.in_ok-extend_from_slice.ensures.items,
    )
    (simp append_assoc)
