use Rattle.std.proofs.Common.{◌||◌, sym, ap, ◌∙◌}
use Rattle.union_base.specs.SortedLists.{has}
use Rattle.union_base.proofs.SortedListLaws.{has-union}
use Rattle.union_base.specs.RecordIds.{id_cmp}
use Rattle.field_merge.specs.KeptLaws.{id_total}
use Rattle.match_features.proofs.MemberLaws.{or_left}
use Rattle.edition_derivations.proofs.holding.merges.Goals as goal

pub returns-then-holds : goal.returns-then-holds
returns-then-holds c =
    let left = c.args.step.now.left.content.contributors in
    let right = c.args.step.now.right.content.contributors in
    let id = c.args.id.now in
    c.if-holds.true
    ∙ sym (has-union id_total left right id ∙ or_left (has id_cmp left id) (has id_cmp right id) (sym c.holds.ensures ∙ c.if-holds.true))

pub returns-else-holds : goal.returns-else-holds
returns-else-holds c =
    let left = c.args.step.now.left.content.contributors in
    let right = c.args.step.now.right.content.contributors in
    let id = c.args.id.now in
    c.holds-else-holds.ensures
    ∙ sym (has-union id_total left right id ∙ ap (λ t. t || has id_cmp right id) (sym c.holds.ensures ∙ c.if-holds.false))
