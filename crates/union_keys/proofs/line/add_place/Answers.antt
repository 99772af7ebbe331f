use Rattle.std.proofs.Common.{append_assoc}
use Rattle.union_keys.specs.Lines.{place_cells}
use Rattle.union_keys.proofs.line.add_place.Goals as goal

pub returns : goal.returns
unfolding place_cells
returns c =
    rw (
      c.in_ok-add_number-2.ensures,
      c.in_ok-push-4.ensures.items,
      c.in_ok-add_number.ensures,
      c.in_ok-push-3.ensures.items,
      c.in_ok-extend_from_slice-2.ensures.items,
      c.bytes-2.ensures,
      c.in_ok-push-2.ensures.items,
      c.in_ok-extend_from_slice.ensures.items,
      c.bytes.ensures.value,
      c.in_ok-push.ensures.items,
    )
    (simp append_assoc)
