use Rattle.std.proofs.Common.{append_assoc}
use Rattle.catalogue_export.specs.WorkLists.{work_text}
use Rattle.catalogue_export.proofs.works_text.add_work.Goals as goal

pub returns : goal.returns
unfolding work_text
returns c =
    rw (
      c.in_ok-add_editions.ensures,
      c.in_ok-push.ensures.items,
      c.in_ok-extend_from_slice-2.ensures.items,
      c.in_ok-extend_from_slice.ensures.items,
    )
    (simp append_assoc)
