use Rattle.std.proofs.Common.{◌++◌, List, ℕ, ap, ◌∙◌}
use Rattle.std.specs.Prelude.{codes}
use Rattle.std.specs.List.{flat_map}
use Rattle.std.specs.BTreeMap.{get}
use Rattle.union_base.specs.RecordIds.{id_cmp}
use Rattle.change_notices.specs.Notices.{edition_lines, name_in}
use Rattle.change_notices.proofs.NoticeLaws.{side-told}
use Rattle.change_notices.proofs.notice.notice.Goals as goal

pub returns : goal.returns
returns c =
    λ before after held next delta.
    let closed = c.args.delta.now.closed.items in
    let opened = c.args.delta.now.opened.items in
    let named_after = get id_cmp c.in_ok-after.after in
    let named_before = get id_cmp c.in_ok-before.before in
    let one = rw (c.as_slice-3.ensures.value, c.new-lines.ensures.items) at c.in_ok-add_side.ensures in
    let two = rw c.as_slice-4.ensures.value at c.in_ok-add_side-2.ensures in
    two
    ∙ ap (λ (xs : List (List ℕ)). xs ++ flat_map (edition_lines (codes "opened ") (codes " from ") (codes " new") named_before) opened) one
    ∙ ap (λ (xs : List (List ℕ)). xs ++ flat_map (edition_lines (codes "opened ") (codes " from ") (codes " new") named_before) opened)
    (side-told (codes "closed ") (codes " to ") (codes " gone") named_after before after closed opened held next delta.closed delta.opened
    (rw c.as_slice-2.ensures.value at c.in_ok-after.ensures))
    ∙ ap (λ (ys : List (List ℕ)). flat_map (edition_lines (codes "closed ") (codes " to ") (codes " gone") (name_in after)) closed ++ ys)
    (side-told (codes "opened ") (codes " from ") (codes " new") named_before after before opened closed next held delta.opened delta.closed
    (rw c.as_slice.ensures.value at c.in_ok-before.ensures))
