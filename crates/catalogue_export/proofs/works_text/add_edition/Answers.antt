use Rattle.std.proofs.Common.{append_assoc}
use Rattle.catalogue_export.specs.WorkLists.{edition_line}
use Rattle.catalogue_export.proofs.works_text.add_edition.Goals as goal

pub returns : goal.returns
unfolding edition_line
returns c =
    rw (c.in_ok-push-2.ensures.items, c.in_ok-extend_from_slice.ensures.items, c.bytes.ensures, c.in_ok-name.ensures, c.in_ok-push.ensures.items)
    (simp append_assoc)
