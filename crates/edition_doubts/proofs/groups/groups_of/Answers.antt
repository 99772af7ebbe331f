use Rattle.std.proofs.Common.{sym, subst}
use Rattle.edition_doubts.specs.Groups.{AreEditions}
use Rattle.edition_doubts.proofs.GroupLaws.{are-editions}
use Rattle.edition_doubts.proofs.groups.groups_of.Goals as goal

pub returns-clause-editions : goal.returns-clause-editions
returns-clause-editions c =
    let records = c.args.records.now in
    let editions = c.args.editions.now in
    subst AreEditions (sym c.in_ok-groups.ensures) (are-editions records editions c.requires editions (λ e among. among))
