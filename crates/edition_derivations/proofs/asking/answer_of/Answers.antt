use Rattle.std.proofs.Common.{sym, ◌∙◌, subst}
use Rattle.edition_derivations.specs.Answers.{AreApart}
use Rattle.edition_derivations.proofs.AnswerLaws.{apart-from_holders}
use Rattle.edition_derivations.proofs.asking.answer_of.Goals as goal

pub returns-in_ok-shared-3 : goal.returns-in_ok-shared-3
returns-in_ok-shared-3 c =
    let editions = c.args.editions.now in
    let one = c.args.one.now in
    let other = c.args.other.now in
    let first = c.in-Some-Some.first.now in
    let second = c.in-Some-Some.second.now in
    subst (λ x. AreApart editions one other x c.in_ok-shared-3.field-0) (sym c.in_ok-shared-2.ensures)
    (subst (λ y. AreApart editions one other first y) (sym c.in_ok-shared-3.ensures)
    (apart-from_holders c.args.records.now editions c.requires one other first second
    c.in-Some-Some.ensures.among c.in-Some-Some.ensures'.among c.in-Some-Some.ensures.holds c.in-Some-Some.ensures'.holds
    (sym c.holds.ensures ∙ c.if-holds.false)))
