use Rattle.std.proofs.Common.{refl, subst}
use Rattle.merge_laws.specs.Resolution.{IsResolution}
use Rattle.catalogue_editions.specs.Joining.{join}
use Rattle.catalogue_editions.specs.Matching.{match}
use Rattle.edition_derivations.specs.Answers.{Answers}
use Rattle.union_why.proofs.records.tell_two.Goals as goal

pub returns : goal.returns
returns g c =
    let records = c.args.records.now in
    let editions = c.in_ok-editions.editions.items in
    let one = c.args.one.now in
    let other = c.args.other.now in
    record {
      editions = editions;
      resolved = subst (λ list. IsResolution match join list editions) c.in_ok-shared_each.ensures c.in_ok-editions.ensures;
      answer = c.in-Some.told;
      answers = subst (Answers records editions one other) c.in-Some.is
          (subst (λ list. Answers records list one other c.in_ok-answer_of.field-0) c.as_slice.ensures.value c.in_ok-answer_of.ensures);
      told = rw (c.in_ok-add_answer-in-Some.ensures, c.new-text.ensures.items) refl;
    }
