use Rattle.std.proofs.Common.{[], ◌∷◌, ◌++◌, sym, ◌∙◌, ap, subst, arith}
use Rattle.std.proofs.lemmas.Result.{IfOk-weaker}
use Rattle.std.proofs.lemmas.List.Sorted.{length_permutation}
use Rattle.merge_laws.specs.Resolution.{IsDominated}
use Rattle.merge_laws.proofs.Resolutions.{IsDominated-right}
use Rattle.merge_laws.proofs.Inserting.{inserting_none, inserting_joined, inserting_bound}
use Rattle.merge_laws.proofs.Resolving.{IsResolving, resolving_kept, IsResolution-from_resolving}
use Rattle.swoosh_resolver.specs.Changes.{view_of}
use Rattle.swoosh_resolver.proofs.Standing.{can-either, can-none}
use Rattle.swoosh_resolver.proofs.Unmerged.{unmerged_none, unmerged-then}
use Rattle.swoosh_resolver.proofs.Views.{view-push, fits-push}
use Rattle.swoosh_resolver.proofs.blocks.Blocks.plan_insert.Goals as goal

pub loop-value-init : goal.loop-value-init
loop-value-init g c = record {
  fits = c.requires;
  stands = rw c.in_ok-value.ensures.base (can-none g.R.Resolvable.meets c.args.self.now.blocks c.args.change.closed.items c.args.change.opened.items);
  inserting = rw c.in_ok-value.ensures.value
      (inserting_none g.met.R.Join.join_laws g.met.R.Resolvable.match_laws g.met.R.Resolvable.finding_laws.grows (view_of c.args.self.now.blocks c.args.change.closed.items c.args.change.opened.items)
      c.args.value c.args.steps.now c.requires.apart);
  others = unmerged_none c.args.self.now.blocks c.args.change.closed.items c.args.change.opened.items c.in_ok-value.value.value;
}

pub loop-value-smaller : goal.loop-value-smaller
loop-value-smaller g c =
    let merges = rw c.in-Some.is at c.in_ok-merged.ensures.merged in
    let l = length_permutation _ _ merges.taken in
    omega arith

pub loop-value-preserved : goal.loop-value-preserved
loop-value-preserved g c =
    let merges = rw c.in-Some.is at c.in_ok-merged.ensures.merged in
    record {
      fits = c.in_ok-merged.ensures.fits;
      stands = rw c.in-Some.is at c.in_ok-merged.ensures.stands;
      inserting = rw merges.is
          (inserting_joined g.met.R.Join.join_laws g.met.R.Resolvable.match_laws g.met.R.Resolvable.finding_laws.grows (view_of c.args.self.now.blocks c.args.change.closed.items c.args.change.opened.items)
          c.args.value c.args.steps.now c.loop-value.steps c.loop-value.value.value (view_of c.args.self.now.blocks c.loop-value.change.closed.items c.loop-value.change.opened.items) c.merge_next.new.steps merges.by
          (view_of c.args.self.now.blocks c.merge_next.new.change.closed.items c.merge_next.new.change.opened.items) c.loop-value.invariant.inserting c.merge_next.ensures.cost merges.taken merges.matches);
      others =
          (unmerged-then c.args.self.now.blocks c.args.change.closed.items c.args.change.opened.items g.met.R.Join.join_laws g.met.R.Resolvable.match_laws
          c.loop-value.change.closed.items c.loop-value.change.opened.items c.loop-value.value.value c.merge_next.new.change.closed.items c.merge_next.new.change.opened.items c.in-Some.merged.value
          c.loop-value.invariant.others (subst (IsDominated g.R.Resolvable.meets g.R.Join.join c.loop-value.value.value) (sym merges.is) (IsDominated-right g.met.R.Join.join_laws g.met.R.Resolvable.match_laws merges.by c.loop-value.value.value)) merges.others);
    }

pub returns-clause-inserts : goal.returns-clause-inserts
returns-clause-inserts g c =
    let none = rw c.in_default.is at c.in_ok-merged.ensures.none in
    IfOk-weaker c.with_last.result _ _
    (λ new (stays, (by, last, is, stands)). rw (stays, none.0) (record {
      by = by;
      before = c.loop-value.change.opened.items;
      last = last ∙ ap (λ es. es ++ by ∷ []) none.1;
      dominates = rw is c.loop-value.invariant.inserting.above;
      others = rw is c.loop-value.invariant.others;
    }))
    c.with_last.ensures

pub returns-clause-fits : goal.returns-clause-fits
returns-clause-fits g c =
    let blocks = c.args.self.now.blocks in
    let change = c.loop-value.change in
    let list = view_of blocks c.args.change.closed.items c.args.change.opened.items ++ c.args.value ∷ [] in
    let view = view_of blocks change.closed.items change.opened.items in
    let none = rw c.in_default.is at c.in_ok-merged.ensures.none in
    let kept : IsResolving g.R.Resolvable.meets g.R.Join.join list [] (view ++ c.loop-value.value.value ∷ []) =
    resolving_kept g.met.R.Join.join_laws g.met.R.Resolvable.match_laws list [] view c.loop-value.value.value c.loop-value.invariant.inserting.resolving none.2 in
    IfOk-weaker c.with_last.result _ _
    (λ new (stays, (by, last, is, stands)). rw (last, stays, none.0, none.1)
    (fits-push blocks change.closed.items change.opened.items c.loop-value.invariant.fits by
    (can-either g.R.Resolvable.meets blocks change.closed.items change.opened.items stands c.loop-value.invariant.stands)
    (rw is kept.apart)))
    c.with_last.ensures

pub returns-clause-resolved : goal.returns-clause-resolved
returns-clause-resolved g c =
    let blocks = c.args.self.now.blocks in
    let change = c.loop-value.change in
    let list = view_of blocks c.args.change.closed.items c.args.change.opened.items ++ c.args.value ∷ [] in
    let view = view_of blocks change.closed.items change.opened.items in
    let none = rw c.in_default.is at c.in_ok-merged.ensures.none in
    let kept : IsResolving g.R.Resolvable.meets g.R.Join.join list [] (view ++ c.loop-value.value.value ∷ []) =
    resolving_kept g.met.R.Join.join_laws g.met.R.Resolvable.match_laws list [] view c.loop-value.value.value c.loop-value.invariant.inserting.resolving none.2 in
    IfOk-weaker c.with_last.result _ _
    (λ new (stays, (by, last, is, stands)). rw (last, stays, none.0, none.1, view-push blocks change.closed.items change.opened.items by, is)
    (IsResolution-from_resolving g.met.R.Join.join_laws g.met.R.Resolvable.match_laws list (view ++ c.loop-value.value.value ∷ []) kept))
    c.with_last.ensures

pub returns-in_err-merged-clause-cost : goal.returns-in_err-merged-clause-cost
returns-in_err-merged-clause-cost g c all x r cx d =
    let view = view_of c.args.self.now.blocks c.loop-value.change.closed.items c.loop-value.change.opened.items in
    inserting_bound g.met.R.Join.join_laws g.met.R.Resolvable.match_laws g.met.R.Resolvable.finding_laws.grows (view_of c.args.self.now.blocks c.args.change.closed.items c.args.change.opened.items) c.args.value
    c.args.steps.now c.loop-value.steps c.loop-value.value.value view c.merge_next.new.steps c.loop-value.invariant.inserting c.merge_next.ensures.cost all x r cx d

pub returns-clause-cost : goal.returns-clause-cost
returns-clause-cost g c all x r cx d =
    let view = view_of c.args.self.now.blocks c.loop-value.change.closed.items c.loop-value.change.opened.items in
    inserting_bound g.met.R.Join.join_laws g.met.R.Resolvable.match_laws g.met.R.Resolvable.finding_laws.grows (view_of c.args.self.now.blocks c.args.change.closed.items c.args.change.opened.items) c.args.value
    c.args.steps.now c.loop-value.steps c.loop-value.value.value view c.merge_next.new.steps c.loop-value.invariant.inserting c.merge_next.ensures.cost all x r cx d
