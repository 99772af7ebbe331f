use Rattle.std.proofs.Common.{◌≡◌, false, List, [], ◌∷◌, ◌++◌, append_assoc, append-nil, sym, ◌∙◌, ap, subst, inl, inr, arith}
use Rattle.std.specs.Prelude.{All, Contains}
use Rattle.std.proofs.lemmas.List.{nil_from_length}
use Rattle.std.proofs.lemmas.List.Elements.{Contains-append_left, Contains-append_right, Contains-push, Contains-push_cases}
use Rattle.std.proofs.lemmas.Result.{IfOk-weaker}
use Rattle.merge_laws.specs.Reach.{near}
use Rattle.merge_laws.specs.Resolution.{IsResolution}
use Rattle.merge_laws.proofs.Places.{All-from_members, Contains-head}
use Rattle.merge_laws.proofs.InsertingAll.{comes-begin, comes-next, comes-paid, comes-paid_all, resolved-itself}
use Rattle.merge_laws.proofs.Resolutions.{apart-from_resolution}
use Rattle.swoosh_resolver.specs.Tables.{values_of}
use Rattle.swoosh_halves.proofs.Pairing.{paid_near, spent_more, spent_within, unmatched_before}
use Rattle.swoosh_halves.proofs.both.resolve_both.Goals as goal

pub loop-value-init : goal.loop-value-init
loop-value-init g c =
    let both = c.in_ok-both.both in
    let started = c.in_ok-both.ensures in
    let one = c.args.one.items in
    record {
      free = started.free;
      coming = rw (started.apart, append-nil both.met.items, started.met, c.into_iter-value-iterator.ensures.into_iter_gives.0)
          (comes-begin g.met.R.Join.join_laws g.met.R.Resolvable.match_laws one c.args.other.items c.args.steps.now c.requires.one);
      apart = λ x there. (let (k, kl, e) = rw started.apart at there in absurd (omega arith));
      untested = λ none. (started.met, omega arith);
    }

pub with_value-requires-clause-apart : goal.with_value-requires-clause-apart
with_value-requires-clause-apart g c =
    let both = c.loop-value.both in
    apart-from_resolution g.met.R.Join.join_laws g.met.R.Resolvable.match_laws (c.args.one.items ++ c.loop-value.yielded) (values_of (both.met.items ++ both.apart.items)) c.loop-value.invariant.coming.resolved

-- the value matches none of its own list
pub with_value-requires-clause-unmatched : goal.with_value-requires-clause-unmatched
with_value-requires-clause-unmatched g c =
    let front = c.loop-value.yielded in
    let value = c.in-Some.value in
    let rest = c.next.new.self.rest.items in
    let whole : c.args.other.items ≡ front ++ value ∷ rest = sym c.loop-value.invariant.coming.split ∙ ap (λ xs. front ++ xs) c.in-Some.ensures.steps.0 in
    All-from_members (λ w. g.R.Resolvable.meets value w ≡ false) (values_of c.loop-value.both.apart.items)
    (λ x there. unmatched_before g.R.Resolvable.meets c.args.other.items front rest value x whole c.requires.other (c.loop-value.invariant.apart x there))

pub loop-value-preserved : goal.loop-value-preserved
loop-value-preserved g c =
    let one = c.args.one.items in
    let other = c.args.other.items in
    let front = c.loop-value.yielded in
    let value = c.in-Some.value in
    let rest = c.next.new.self.rest.items in
    let old = c.loop-value.both in
    let new = c.in_ok-both-2.both in
    let whole : other ≡ front ++ value ∷ rest = sym c.loop-value.invariant.coming.split ∙ ap (λ xs. front ++ xs) c.in-Some.ensures.steps.0 in
    let there : Contains other value = subst (λ (list : List g.row.R.Denot). Contains list value) (sym whole) (Contains-append_right front (value ∷ rest) value (Contains-head value rest)) in
    record {
      free = c.in_ok-both-2.ensures.free;
      coming = comes-next g.met.R.Join.join_laws g.met.R.Resolvable.match_laws c.loop-value.invariant.coming value rest c.in-Some.ensures.steps.0 c.with_value.new.steps c.with_value.ensures.cost
          (values_of (new.met.items ++ new.apart.items)) c.in_ok-both-2.ensures.resolved;
      apart = λ x among. elim (Contains-push_cases (values_of old.apart.items) value x (c.in_ok-both-2.ensures.apart x among)) as (λ _. Contains (front ++ value ∷ []) x) [
        | inl before ↦ Contains-append_left front (value ∷ []) x (c.loop-value.invariant.apart x before)
        | inr same ↦ subst (Contains (front ++ value ∷ [])) same (Contains-push front value)
      ];
      untested = λ none.
          let (met, spent) = c.loop-value.invariant.untested none in
          let unmatched : All (λ w. g.R.Resolvable.meets value w ≡ false) (values_of old.met.items) =
          subst (All (λ w. g.R.Resolvable.meets value w ≡ false)) (sym met) (All-from_members (λ w. g.R.Resolvable.meets value w ≡ false) one (λ x cx. none x value cx there)) in (
            ap values_of (c.in_ok-both-2.ensures.met unmatched) ∙ met,
            spent_more (λ y. near g.R.Resolvable.is_found one y) front value c.args.steps.now c.loop-value.steps c.with_value.new.steps spent
                (paid_near g.R.Resolvable.is_found old.met.items one value c.loop-value.steps c.with_value.new.steps met (c.with_value.ensures.untested unmatched)),
          );
    }

pub returns-in_err-both-2-clause-untested : goal.returns-in_err-both-2-clause-untested
returns-in_err-both-2-clause-untested g c none =
    let one = c.args.one.items in
    let other = c.args.other.items in
    let front = c.loop-value.yielded in
    let value = c.in-Some.value in
    let rest = c.next.new.self.rest.items in
    let whole : other ≡ front ++ value ∷ rest = sym c.loop-value.invariant.coming.split ∙ ap (λ xs. front ++ xs) c.in-Some.ensures.steps.0 in
    let there : Contains other value = subst (λ (list : List g.row.R.Denot). Contains list value) (sym whole) (Contains-append_right front (value ∷ rest) value (Contains-head value rest)) in
    let (met, spent) = c.loop-value.invariant.untested none in
    let unmatched : All (λ w. g.R.Resolvable.meets value w ≡ false) (values_of c.loop-value.both.met.items) =
    subst (All (λ w. g.R.Resolvable.meets value w ≡ false)) (sym met) (All-from_members (λ w. g.R.Resolvable.meets value w ≡ false) one (λ x cx. none x value cx there)) in
    spent_within (λ y. near g.R.Resolvable.is_found one y) other front rest value c.args.steps.now c.loop-value.steps c.with_value.new.steps whole spent
    (paid_near g.R.Resolvable.is_found c.loop-value.both.met.items one value c.loop-value.steps c.with_value.new.steps met (c.with_value.ensures.untested unmatched))

pub returns-clause-untested : goal.returns-clause-untested
returns-clause-untested g c none =
    let nothing : c.loop-value.value-iterator.rest.items ≡ [] = nil_from_length _ (sym c.loop-value.value-iterator.rest.ok.0 ∙ c.in-None.ensures.steps.0) in
    let all : c.args.other.items ≡ c.loop-value.yielded = sym c.loop-value.invariant.coming.split ∙ ap (λ xs. c.loop-value.yielded ++ xs) nothing ∙ append-nil c.loop-value.yielded in
    rw all (c.loop-value.invariant.untested none).1

pub returns-clause-resolved : goal.returns-clause-resolved
returns-clause-resolved g c =
    let both = c.loop-value.both in
    let nothing : c.loop-value.value-iterator.rest.items ≡ [] = nil_from_length _ (sym c.loop-value.value-iterator.rest.ok.0 ∙ c.in-None.ensures.steps.0) in
    let all : c.args.other.items ≡ c.loop-value.yielded = sym c.loop-value.invariant.coming.split ∙ ap (λ xs. c.loop-value.yielded ++ xs) nothing ∙ append-nil c.loop-value.yielded in
    IfOk-weaker c.into_values.result (λ values. values.items ≡ values_of (both.met.items ++ both.apart.items))
    (λ values. IsResolution g.R.Resolvable.meets g.R.Join.join (c.args.one.items ++ c.args.other.items) values.items)
    (λ values is. rw (is, all) c.loop-value.invariant.coming.resolved)
    c.into_values.ensures

-- in any case no more was tested than the reach of the insertions
pub returns-in_err-both-2-clause-cost : goal.returns-in_err-both-2-clause-cost
returns-in_err-both-2-clause-cost g c number r =
    comes-paid g.met.R.Join.join_laws g.met.R.Resolvable.match_laws c.loop-value.invariant.coming c.in-Some.value c.next.new.self.rest.items c.in-Some.ensures.steps.0 c.with_value.new.steps c.with_value.ensures.cost
    c.args.one.items number (resolved-itself g.met.R.Join.join_laws g.met.R.Resolvable.match_laws c.args.one.items c.requires.one) r

pub returns-clause-cost : goal.returns-clause-cost
returns-clause-cost g c number r =
    let nothing : c.loop-value.value-iterator.rest.items ≡ [] = nil_from_length _ (sym c.loop-value.value-iterator.rest.ok.0 ∙ c.in-None.ensures.steps.0) in
    comes-paid_all g.met.R.Join.join_laws g.met.R.Resolvable.match_laws c.loop-value.invariant.coming nothing
    c.args.one.items number (resolved-itself g.met.R.Join.join_laws g.met.R.Resolvable.match_laws c.args.one.items c.requires.one) r
