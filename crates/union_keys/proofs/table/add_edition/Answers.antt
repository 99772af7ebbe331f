use Rattle.std.proofs.Common.{append_assoc}
use Rattle.union_keys.specs.Tables.{key_rows}
use Rattle.union_keys.proofs.table.add_edition.Goals as goal

pub returns : goal.returns
unfolding key_rows
returns c =
    rw (
      c.in_ok-add_marked-2.ensures,
      c.as_slice-2.ensures.value,
      c.in_ok-posts.ensures.value,
      c.features-2.ensures,
      c.in_ok-add_marked.ensures,
      c.as_slice.ensures.value,
      c.in_ok-seeks.ensures.value,
      c.features.ensures,
    )
    (simp append_assoc)
