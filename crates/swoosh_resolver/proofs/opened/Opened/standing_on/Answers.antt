use Rattle.std.proofs.Common.{◌≡◌, ℕ, ◌+◌, ◌++◌, ◌∷◌, [], true, false, take, length, length-take, refl, sym, ◌∙◌, ap, arith}
use Rattle.std.proofs.lemmas.List.{take_more, take_all}
use Rattle.swoosh_resolver.specs.Tables.{Listed}
use Rattle.swoosh_resolver.specs.Looks.{StandsOn}
use Rattle.swoosh_resolver.proofs.Finding.{AreFound, empty-from_test, found_none, found_more, found_skipped, nothing-found, nothing-on}
use Rattle.swoosh_resolver.proofs.opened.Opened.standing_on.Goals as goal

pub returns-then-is_empty : goal.returns-then-is_empty
returns-then-is_empty g c =
    let none : c.args.numbers.now ≡ [] = empty-from_test c.args.numbers.now (sym c.is_empty.ensures ∙ c.if-is_empty.true) in
    rw c.new-places.ensures.items (nothing-found (StandsOn c.args.numbers.now) (nothing-on c.args.numbers.now none) c.args.self.now.items).members

pub loop-fresh-init : goal.loop-fresh-init
loop-fresh-init g c = record {
  place = refl;
  found = rw c.new-places.ensures.items (found_none (StandsOn c.args.numbers.now));
}

pub loop-fresh-preserved : goal.loop-fresh-preserved
loop-fresh-preserved g c =
    let items = c.deref-fresh-items.result.now in
    let i = c.loop-fresh.fresh-index in
    let x = c.fresh-item.result in
    let places = c.loop-fresh.places.items in
    let fact = StandsOn c.args.numbers.now in
    let longer : take (i + 1) items ≡ take i items ++ x ∷ [] = take_more items i x (omega arith) ∙ ap (λ e. take i items ++ e ∷ []) (sym c.fresh-item.is) in
    let before = c.loop-fresh.invariant.found in
    let len : length (take i items) ≡ i = (let n = length-take i items in omega arith) in
    let at : c.loop-fresh.place ≡ length (take i items) = c.loop-fresh.invariant.place ∙ sym len in
    record {
      place = let e = c.loop-fresh.invariant.place in omega arith;
      found = rw longer (elim c.stands_on.result as (λ b. c.stands_on.result ≡ b → AreFound fact (take i items ++ x ∷ []) c.push_if.new.numbers.items) [
        | true ↦ λ e. rw (c.in_ok-push_if.ensures.yes e, at) (found_more fact (take i items) places x before (c.stands_on.ensures.yes e))
        | false ↦ λ e. rw (c.in_ok-push_if.ensures.no e) (found_skipped fact (take i items) places x before (c.stands_on.ensures.no e))
      ] refl);
    }

pub returns : goal.returns
returns g c =
    let items = c.deref-fresh-items.result.now in
    let all : take c.loop-fresh.fresh-index items ≡ items = take_all c.loop-fresh.fresh-index items (omega arith) in
    let mine : items ≡ c.args.self.now.items = c.deref-fresh-items.ensures.value ∙ ap (λ (l : Listed g.row.R.Denot ℕ). l.items) c.self.view_is in
    (rw (all, mine) at c.loop-fresh.invariant.found).members
