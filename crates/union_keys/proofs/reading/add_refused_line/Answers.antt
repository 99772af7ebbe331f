use Rattle.std.proofs.Common.{append_assoc}
use Rattle.union_keys.specs.Readings.{refused_line}
use Rattle.union_keys.proofs.reading.add_refused_line.Goals as goal

pub returns : goal.returns
unfolding refused_line
returns c =
    rw (
      c.in_ok-push-2.ensures.items,
      c.in_ok-add_number-2.ensures,
      c.from.ensures,
      c.in_ok-extend_from_slice-3.ensures.items,
      c.name.ensures,
      c.in_ok-push.ensures.items,
      c.in_ok-add_number.ensures,
      c.in_ok-extend_from_slice-2.ensures.items,
      c.in_ok-extend_from_slice.ensures.items,
    )
    (simp append_assoc)
