use Rattle.std.proofs.Common.{[], ◌∙◌, sym, ap}
use Rattle.edition_doubts.specs.Groups.{pairs_of}
use Rattle.edition_doubts.proofs.GroupLaws.{pushed}
use Rattle.edition_doubts.proofs.groups.all_without_members.Goals as goal

pub loop-edition-preserved : goal.loop-edition-preserved
loop-edition-preserved c =
    let editions = c.args.editions.now in
    let edition = c.edition-item.result in
    ap pairs_of c.in_ok-push.ensures.items
    ∙ pushed [] editions c.loop-edition.groups.items c.loop-edition.edition-index edition c.in_ok-group.group
    c.loop-edition-test.true (sym c.edition-item.is) c.in_ok-group.ensures.edition c.in_ok-group.ensures.members c.loop-edition.invariant
