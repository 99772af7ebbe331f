use Rattle.std.proofs.Common.{◌≡◌, ◌++◌, ◌∷◌, [], append_assoc, append-nil, sym, ◌∙◌, ap, subst}
use Rattle.std.proofs.lemmas.List.{nil_from_length}
use Rattle.swoosh_resolver.specs.Splits.{Opens}
use Rattle.swoosh_resolver.proofs.Adding.{opens_none, opens_more}
use Rattle.swoosh_resolver.proofs.opened.open_values.Goals as goal

pub loop-value-init : goal.loop-value-init
loop-value-init g c = record {
  rest = c.into_iter-value-iterator.ensures.into_iter_gives.0;
  opens = opens_none c.args.opened.items;
}

pub loop-value-preserved : goal.loop-value-preserved
loop-value-preserved g c =
    let (e, items, is, base) = c.in_ok-opened.ensures in
    let done = c.loop-value.yielded in
    let all : done ++ (c.in-Some.value ∷ c.next.new.self.rest.items) ≡ c.args.values.items = rw c.in-Some.ensures.steps.0 at c.loop-value.invariant.rest in
    record {
      rest = append_assoc done (c.in-Some.value ∷ []) c.next.new.self.rest.items ∙ all;
      opens = rw items (opens_more c.args.opened.items done c.loop-value.opened.items e c.in-Some.value c.loop-value.invariant.opens (is ∙ c.in_ok-of.ensures.value) (base ∙ c.in_ok-of.ensures.base));
    }

pub returns : goal.returns
returns g c =
    let done = c.loop-value.yielded in
    let nothing : c.loop-value.value-iterator.rest.items ≡ [] = nil_from_length _ (sym c.loop-value.value-iterator.rest.ok.0 ∙ c.in-None.ensures.steps.0) in
    let all : done ≡ c.args.values.items = sym (append-nil done) ∙ ap (λ xs. done ++ xs) (sym nothing) ∙ c.loop-value.invariant.rest in
    subst (λ vs. Opens c.args.opened.items vs c.loop-value.opened.items) all c.loop-value.invariant.opens
