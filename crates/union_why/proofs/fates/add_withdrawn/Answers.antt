use Rattle.std.proofs.Common.{append_assoc}
use Rattle.union_why.specs.Fates.{withdrawn_text}
use Rattle.union_why.proofs.fates.add_withdrawn.Goals as goal

pub returns : goal.returns
unfolding withdrawn_text
returns c =
    rw (
      c.in_ok-extend_from_slice-2.ensures.items,
      c.in_ok-add_frame.ensures,
      c.in_ok-extend_from_slice.ensures.items,
      c.in_ok-add_id.ensures,
    )
    (simp append_assoc)
