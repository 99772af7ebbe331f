use Rattle.std.proofs.Common.{◌∙◌, sym, ap}
use Rattle.edition_doubts.specs.Groups.{pairs_of}
use Rattle.edition_doubts.specs.Placing.{with_member}
use Rattle.edition_doubts.proofs.PlacingLaws.{gathered-no, gathered-one, only-place}
use Rattle.edition_doubts.proofs.groups.add_member.Goals as goal

pub returns-in_ok-push_member-in-Some : goal.returns-in_ok-push_member-in-Some
returns-in_ok-push_member-in-Some c = λ records before resolved among its.
    let editions = c.args.editions.now in
    let rec = c.args.rec.now in
    let place = c.in-Some.place in
    let within = c.in-Some.ensures.within in
    let found = c.in-Some.ensures.found in
    c.in_ok-push_member-in-Some.ensures
    ∙ ap (λ r. with_member place r (pairs_of c.args.groups.now.items)) c.in_ok-shared-in-Some.ensures
    ∙ ap (with_member place rec) its
    ∙ sym (gathered-one before editions rec place within found (only-place records editions resolved rec among place within found))

pub returns-in-None : goal.returns-in-None
returns-in-None c = λ records before resolved among its.
    its ∙ sym (gathered-no before c.args.editions.now c.args.rec.now c.in-None.ensures.none)
