use Rattle.std.proofs.Common.{ℕ, [], ◌∷◌, ◌++◌, ◌∙◌, arith}
use Rattle.std.proofs.lemmas.List.Sorted.{IsPermutation-map, length_permutation}
use Rattle.merge_laws.proofs.Inserting.{inserting_none, inserting_joined, inserting_bound}
use Rattle.merge_laws.proofs.Resolutions.{IsResolution-permutation}
use Rattle.merge_laws.proofs.Resolving.{IsResolving, resolving_kept, IsResolution-from_resolving}
use Rattle.swoosh_resolver.specs.Tables.{Entry, values_of}
use Rattle.swoosh_halves.proofs.Pairing.{base-none, free_before, free_first, last_of_first}
use Rattle.swoosh_halves.proofs.both.Both.with_merge.Goals as goal

pub loop-value-init : goal.loop-value-init
loop-value-init g c = record {
  alone = c.in_ok-value.ensures.base;
  free = c.requires.free;
  inserting = rw c.in_ok-value.ensures.value
      (inserting_none g.met.R.Join.join_laws g.met.R.Resolvable.match_laws g.met.R.Resolvable.finding_laws.grows (values_of (c.args.self.met.items ++ c.args.self.apart.items)) c.args.merge c.args.steps.now c.requires.apart);
  apart = λ x there. there;
}

pub loop-value-smaller : goal.loop-value-smaller
loop-value-smaller g c =
    let merges = rw c.in-Some.is at c.in_ok-merged.ensures.merged in
    let l = length_permutation _ _ merges.taken in
    omega arith

pub loop-value-preserved : goal.loop-value-preserved
loop-value-preserved g c =
    let list = values_of (c.args.self.met.items ++ c.args.self.apart.items) in
    let both = c.loop-value.both.met.items ++ c.loop-value.both.apart.items in
    let left = c.merge_next.new.self.met.items ++ c.merge_next.new.self.apart.items in
    let merges = rw c.in-Some.is at c.in_ok-merged.ensures.merged in
    record {
      alone = c.in_ok-value-2.ensures.base;
      free = free_before both left c.loop-value.value.value c.in-Some.merged merges c.loop-value.invariant.free;
      inserting = rw (c.in_ok-value-2.ensures.value, merges.is)
          (inserting_joined g.met.R.Join.join_laws g.met.R.Resolvable.match_laws g.met.R.Resolvable.finding_laws.grows list c.args.merge c.args.steps.now c.loop-value.steps c.loop-value.value.value (values_of both)
          c.merge_next.new.steps merges.by.value (values_of left) c.loop-value.invariant.inserting c.merge_next.ensures.cost
          (IsPermutation-map (λ (e : Entry g.row.R.Denot ℕ). e.value) both (merges.by ∷ left) merges.taken) merges.matches);
      apart = λ x there. c.loop-value.invariant.apart x (c.in_ok-merged.ensures.apart x there);
    }

pub returns-clause-apart : goal.returns-clause-apart
returns-clause-apart g c x there = c.loop-value.invariant.apart x (c.in_ok-merged.ensures.apart x there)

pub returns-clause-free : goal.returns-clause-free
returns-clause-free g c =
    let met = c.loop-value.both.met.items in
    let apart = c.loop-value.both.apart.items in
    let (last, items, value, base) = c.in_ok-met.ensures in
    let none = rw c.in_default.is at c.in_ok-merged.ensures.none in
    rw (items, none.0, none.1) (free_first met apart last c.loop-value.invariant.free (base ∙ base-none c.in_ok-keyed.ensures.base c.loop-value.invariant.alone))

-- at last the merge matches nothing, and is put among the first
pub returns-clause-resolved : goal.returns-clause-resolved
returns-clause-resolved g c =
    let list = values_of (c.args.self.met.items ++ c.args.self.apart.items) ++ c.args.merge ∷ [] in
    let met = c.loop-value.both.met.items in
    let apart = c.loop-value.both.apart.items in
    let row = values_of (met ++ apart) in
    let (last, items, value, base) = c.in_ok-met.ensures in
    let is = value ∙ c.in_ok-keyed.ensures.value in
    let none = rw c.in_default.is at c.in_ok-merged.ensures.none in
    let kept : IsResolving g.R.Resolvable.meets g.R.Join.join list [] (row ++ last.value ∷ []) =
    rw is (resolving_kept g.met.R.Join.join_laws g.met.R.Resolvable.match_laws list [] row c.loop-value.value.value c.loop-value.invariant.inserting.resolving none.2) in
    rw (items, none.0, none.1)
    (IsResolution-permutation g.met.R.Join.join_laws g.met.R.Resolvable.match_laws list (row ++ last.value ∷ []) (values_of ((met ++ last ∷ []) ++ apart)) (last_of_first met apart last)
    (IsResolution-from_resolving g.met.R.Join.join_laws g.met.R.Resolvable.match_laws list (row ++ last.value ∷ []) kept))

-- each look tested only values that are found, and each but the last took one out
pub returns-in_err-merged-clause-cost : goal.returns-in_err-merged-clause-cost
returns-in_err-merged-clause-cost g c all x r cx d =
    inserting_bound g.met.R.Join.join_laws g.met.R.Resolvable.match_laws g.met.R.Resolvable.finding_laws.grows (values_of (c.args.self.met.items ++ c.args.self.apart.items)) c.args.merge c.args.steps.now
    c.loop-value.steps c.loop-value.value.value (values_of (c.loop-value.both.met.items ++ c.loop-value.both.apart.items)) c.merge_next.new.steps c.loop-value.invariant.inserting c.merge_next.ensures.cost all x r cx d

pub returns-in_err-value-2-clause-cost : goal.returns-in_err-value-2-clause-cost
returns-in_err-value-2-clause-cost g c all x r cx d =
    inserting_bound g.met.R.Join.join_laws g.met.R.Resolvable.match_laws g.met.R.Resolvable.finding_laws.grows (values_of (c.args.self.met.items ++ c.args.self.apart.items)) c.args.merge c.args.steps.now
    c.loop-value.steps c.loop-value.value.value (values_of (c.loop-value.both.met.items ++ c.loop-value.both.apart.items)) c.merge_next.new.steps c.loop-value.invariant.inserting c.merge_next.ensures.cost all x r cx d

pub returns-in_err-keyed-clause-cost : goal.returns-in_err-keyed-clause-cost
returns-in_err-keyed-clause-cost g c all x r cx d =
    inserting_bound g.met.R.Join.join_laws g.met.R.Resolvable.match_laws g.met.R.Resolvable.finding_laws.grows (values_of (c.args.self.met.items ++ c.args.self.apart.items)) c.args.merge c.args.steps.now
    c.loop-value.steps c.loop-value.value.value (values_of (c.loop-value.both.met.items ++ c.loop-value.both.apart.items)) c.merge_next.new.steps c.loop-value.invariant.inserting c.merge_next.ensures.cost all x r cx d

pub returns-in_err-met-clause-cost : goal.returns-in_err-met-clause-cost
returns-in_err-met-clause-cost g c all x r cx d =
    inserting_bound g.met.R.Join.join_laws g.met.R.Resolvable.match_laws g.met.R.Resolvable.finding_laws.grows (values_of (c.args.self.met.items ++ c.args.self.apart.items)) c.args.merge c.args.steps.now
    c.loop-value.steps c.loop-value.value.value (values_of (c.loop-value.both.met.items ++ c.loop-value.both.apart.items)) c.merge_next.new.steps c.loop-value.invariant.inserting c.merge_next.ensures.cost all x r cx d

pub returns-clause-cost : goal.returns-clause-cost
returns-clause-cost g c all x r cx d =
    inserting_bound g.met.R.Join.join_laws g.met.R.Resolvable.match_laws g.met.R.Resolvable.finding_laws.grows (values_of (c.args.self.met.items ++ c.args.self.apart.items)) c.args.merge c.args.steps.now
    c.loop-value.steps c.loop-value.value.value (values_of (c.loop-value.both.met.items ++ c.loop-value.both.apart.items)) c.merge_next.new.steps c.loop-value.invariant.inserting c.merge_next.ensures.cost all x r cx d
