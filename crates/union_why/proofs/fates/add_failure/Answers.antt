use Rattle.std.proofs.Common.{append_assoc}
use Rattle.union_why.specs.Fates.{failure_text}
use Rattle.union_why.proofs.fates.add_failure.Goals as goal

pub returns : goal.returns
unfolding failure_text
returns c =
    rw (
      c.in_ok-add_number.ensures,
      c.from.ensures,
      c.in_ok-extend_from_slice-2.ensures.items,
      c.in_ok-extend_from_slice.ensures.items,
      c.name.ensures,
    )
    (simp append_assoc)
