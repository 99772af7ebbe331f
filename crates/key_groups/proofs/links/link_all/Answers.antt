use Rattle.std.proofs.Common.{◌≡◌, ◌++◌, ◌∷◌, [], ℕ, List, refl, sym, ap, ◌∙◌, subst, arith, append_assoc, append-nil}
use Rattle.std.specs.Prelude.{Contains}
use Rattle.std.proofs.lemmas.List.{nil_from_length}
use Rattle.std.proofs.lemmas.List.Elements.{Contains-append_right}
use Rattle.merge_laws.proofs.Places.{Contains-head}
use Rattle.key_groups.proofs.Labelling.{joined_none, joined_more}
use Rattle.key_groups.proofs.links.link_all.Goals as goal

pub loop-pair-init : goal.loop-pair-init
loop-pair-init c = record {
  all = sym c.into_iter-pair-iterator.ensures.into_iter_gives.0;
  size = refl;
  links = c.requires.links;
  joined = joined_none c.args.links.now;
}

pub loop-pair-preserved : goal.loop-pair-preserved
loop-pair-preserved c =
    let so = c.loop-pair.invariant in
    let front = c.loop-pair.yielded in
    let pair = c.in-Some.pair in
    let rest = c.next.new.self.rest.items in
    record {
      all = so.all ∙ ap (λ xs. front ++ xs) c.in-Some.ensures.steps.0 ∙ sym (append_assoc front (pair ∷ []) rest);
      size = c.link.auto.links ∙ so.size;
      links = c.link.ensures.links;
      joined = joined_more c.args.links.now c.loop-pair.links c.link.new.links front pair so.joined c.link.ensures.joined;
    }

pub link-requires-clause-one : goal.link-requires-clause-one
link-requires-clause-one c =
    let front = c.loop-pair.yielded in
    let pair = c.in-Some.pair in
    let rest = c.next.new.self.rest.items in
    let whole : c.args.pairs.items ≡ front ++ pair ∷ rest = c.loop-pair.invariant.all ∙ ap (λ xs. front ++ xs) c.in-Some.ensures.steps.0 in
    let there : Contains c.args.pairs.items pair = subst (λ (l : List (ℕ × ℕ)). Contains l pair) (sym whole) (Contains-append_right front (pair ∷ rest) pair (Contains-head pair rest)) in
    let within = c.requires.within pair there in
    omega (arith, within.0, c.loop-pair.invariant.size)

pub link-requires-clause-other : goal.link-requires-clause-other
link-requires-clause-other c =
    let front = c.loop-pair.yielded in
    let pair = c.in-Some.pair in
    let rest = c.next.new.self.rest.items in
    let whole : c.args.pairs.items ≡ front ++ pair ∷ rest = c.loop-pair.invariant.all ∙ ap (λ xs. front ++ xs) c.in-Some.ensures.steps.0 in
    let there : Contains c.args.pairs.items pair = subst (λ (l : List (ℕ × ℕ)). Contains l pair) (sym whole) (Contains-append_right front (pair ∷ rest) pair (Contains-head pair rest)) in
    let within = c.requires.within pair there in
    omega (arith, within.1, c.loop-pair.invariant.size)

pub returns-clause-joined : goal.returns-clause-joined
returns-clause-joined c =
    let none : c.loop-pair.pair-iterator.rest.items ≡ [] = nil_from_length _ (sym c.loop-pair.pair-iterator.rest.ok.0 ∙ c.in-None.ensures.steps.0) in
    let all : c.args.pairs.items ≡ c.loop-pair.yielded = c.loop-pair.invariant.all ∙ ap (λ xs. c.loop-pair.yielded ++ xs) none ∙ append-nil c.loop-pair.yielded in
    rw all c.loop-pair.invariant.joined
