use Rattle.std.proofs.Common.{append_assoc}
use Rattle.union_why.specs.Fates.{frame_text}
use Rattle.union_why.proofs.fates.add_frame.Goals as goal

pub returns : goal.returns
unfolding frame_text
returns c =
    rw (
      c.in_ok-add_number-2.ensures,
      c.in_ok-extend_from_slice-4.ensures.items,
      c.in_ok-extend_from_slice-3.ensures.items,
      c.bytes.ensures.value,
      c.in_ok-extend_from_slice-2.ensures.items,
      c.in_ok-add_number.ensures,
      c.in_ok-extend_from_slice.ensures.items,
    )
    (simp append_assoc)
