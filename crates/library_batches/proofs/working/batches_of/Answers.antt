use Rattle.std.proofs.Common.{◌≡◌, [], ◌∷◌, ◌++◌, sym, ap, subst, ◌∙◌, append_assoc, append-nil}
use Rattle.std.proofs.lemmas.List.{nil_from_length}
use Rattle.std.specs.Prelude.{All}
use Rattle.library_batches.specs.Rounds.{AreGiven}
use Rattle.library_batches.specs.Works.{IsMade}
use Rattle.library_batches.proofs.RoundLaws.{given-none, refuses-all, refuses-front}
use Rattle.library_batches.proofs.WorkLaws.{all-at}
use Rattle.library_batches.proofs.working.batches_of.Goals as goal

pub loop-work-init : goal.loop-work-init
loop-work-init c =
    let origin = c.args.origin.now in
    let refused = c.args.refused.now.items in
    record {
      all = sym c.into_iter-work-iterator.ensures.into_iter_gives.0;
      given = subst (λ bs. AreGiven origin.prefer.now origin.library.now [] refused refused bs) (sym c.new-batches.ensures.items)
          (given-none origin.prefer.now origin.library.now refused);
    }

pub add_work-requires : goal.add_work-requires
add_work-requires c =
    let origin = c.args.origin.now in
    let front = c.loop-work.yielded in
    let rest = c.next.new.self.rest.items in
    let whole : c.args.works.items ≡ front ++ c.in-Some.work ∷ rest = c.loop-work.invariant.all ∙ ap (λ ws. front ++ ws) c.in-Some.ensures.steps.0 in
    all-at (IsMade origin.prefer.now origin.library.now) front c.in-Some.work rest
    (subst (λ ws. All (IsMade origin.prefer.now origin.library.now) ws) whole c.requires)

pub loop-work-preserved : goal.loop-work-preserved
loop-work-preserved c =
    let so = c.loop-work.invariant in
    let front = c.loop-work.yielded in
    record {
      all = so.all ∙ ap (λ ws. front ++ ws) c.in-Some.ensures.steps.0 ∙ sym (append_assoc front (c.in-Some.work ∷ []) c.next.new.self.rest.items);
      given = c.in_ok-add_work.ensures.given front c.args.refused.now.items so.given;
    }

pub returns-in_err-add_work-clause-kept : goal.returns-in_err-add_work-clause-kept
returns-in_err-add_work-clause-kept c =
    let front = c.loop-work.yielded in
    let rest = c.next.new.self.rest.items in
    let whole : c.args.works.items ≡ front ++ c.in-Some.work ∷ rest = c.loop-work.invariant.all ∙ ap (λ ws. front ++ ws) c.in-Some.ensures.steps.0 in
    refuses-front front rest c.args.works.items c.in-Some.work c.args.refused.now.items c.loop-work.refused.items c.add_work.new.refused.items whole
    c.loop-work.invariant.given.refuses c.in_err-add_work.ensures.kept

pub returns-clause-given : goal.returns-clause-given
returns-clause-given c =
    let origin = c.args.origin.now in
    let none : c.loop-work.work-iterator.rest.items ≡ [] = nil_from_length _ (sym c.loop-work.work-iterator.rest.ok.0 ∙ c.in-None.ensures.steps.0) in
    let all : c.args.works.items ≡ c.loop-work.yielded = c.loop-work.invariant.all ∙ ap (λ xs. c.loop-work.yielded ++ xs) none ∙ append-nil c.loop-work.yielded in
    subst (λ ws. AreGiven origin.prefer.now origin.library.now ws c.args.refused.now.items c.loop-work.refused.items c.loop-work.batches.items) (sym all)
    c.loop-work.invariant.given

pub returns-clause-kept : goal.returns-clause-kept
returns-clause-kept c =
    let origin = c.args.origin.now in
    let none : c.loop-work.work-iterator.rest.items ≡ [] = nil_from_length _ (sym c.loop-work.work-iterator.rest.ok.0 ∙ c.in-None.ensures.steps.0) in
    let all : c.args.works.items ≡ c.loop-work.yielded = c.loop-work.invariant.all ∙ ap (λ xs. c.loop-work.yielded ++ xs) none ∙ append-nil c.loop-work.yielded in
    let given = subst (λ ws. AreGiven origin.prefer.now origin.library.now ws c.args.refused.now.items c.loop-work.refused.items c.loop-work.batches.items) (sym all)
    c.loop-work.invariant.given in
    refuses-all c.args.works.items c.args.refused.now.items c.loop-work.refused.items given.refuses
