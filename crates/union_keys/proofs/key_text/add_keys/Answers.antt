use Rattle.std.proofs.Common.{append_assoc}
use Rattle.union_keys.specs.Lines.{key_cells}
use Rattle.union_keys.proofs.key_text.add_keys.Goals as goal

pub returns : goal.returns
unfolding key_cells
returns c =
    rw (
      c.in_ok-add_each-2.ensures,
      c.as_slice-2.ensures.value,
      c.in_ok-posts.ensures.value,
      c.features-2.ensures,
      c.in_ok-add_each.ensures,
      c.as_slice.ensures.value,
      c.in_ok-seeks.ensures.value,
      c.features.ensures,
    )
    (simp append_assoc)
