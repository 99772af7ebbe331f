use Rattle.std.proofs.Common.{◌≡◌, [], ◌++◌, length}
use Rattle.merge_laws.proofs.Places.{length-from_push}
use Rattle.merge_laws.proofs.Resolving.{resolving_onto, resolving_kept, resolving_joined, IsResolution-from_resolving}
use Rattle.merge_laws.proofs.Spending.{spent-none, spent-kept, spent-joined, one_less, measure_falls}
use Rattle.merge_laws.proofs.swoosh.resolve_onto.Goals as goal

-- at first the values that do not match are done, and the others are left
pub loop-value-init : goal.loop-value-init
loop-value-init g c = record {
  resolving = resolving_onto g.met.R.Join.join_laws g.met.R.Resolvable.match_laws c.args.apart.items c.args.more.items c.requires;
  spent = spent-none c.args.steps.now (length c.args.more.items) (length c.args.apart.items);
}

-- the value matched nothing
pub loop-value-preserved-in-Continue-1 : goal.loop-value-preserved-in-Continue-1
loop-value-preserved-in-Continue-1 g c =
    let left = c.pop.new.self.items in
    let done = c.loop-value.done.items in
    let value = c.in-Some.value in
    let items = rw c.in-None.ensures.same at c.in_ok-push-in-None.ensures.items in
    record {
      resolving = rw items
          (resolving_kept g.met.R.Join.join_laws g.met.R.Resolvable.match_laws _ left done value
          (rw c.in-Some.ensures.items at c.loop-value.invariant.resolving) c.in-None.ensures.none);
      spent = spent-kept c.args.steps.now _ c.loop-value.steps c.take_match.new.steps (length left) (length done) (length c.loop-value.left.items) (length c.push.new.self.items)
          (length-from_push left c.loop-value.left.items value c.in-Some.ensures.items)
          (length-from_push done c.push.new.self.items value items)
          c.in-None.ensures.cost c.loop-value.invariant.spent;
    }

-- the value matched one that was done
pub loop-value-preserved : goal.loop-value-preserved
loop-value-preserved g c =
    let left = c.pop.new.self.items in
    let done = c.loop-value.done.items in
    let rest = c.take_match.new.done.items in
    let value = c.in-Some.value in
    let other = c.in-Some-take_match.other in
    let is = c.in-Some-take_match.is in
    let next = c.push_joined.new.values.items in
    let items = c.in_ok-push_joined-in-Some-take_match.ensures in
    let moved = c.in-Some-take_match.ensures.taken in
    record {
      resolving = rw items
          (resolving_joined g.met.R.Join.join_laws g.met.R.Resolvable.match_laws _ left done value other rest
          (rw c.in-Some.ensures.items at c.loop-value.invariant.resolving) moved c.in-Some-take_match.ensures.matches);
      spent = spent-joined c.args.steps.now _ c.loop-value.steps c.take_match.new.steps (length left) (length done) (length c.loop-value.left.items) (length rest) (length next)
          (length-from_push left c.loop-value.left.items value c.in-Some.ensures.items)
          (one_less done other rest moved)
          (length-from_push left next (g.R.Join.join other value) items)
          c.in-Some-take_match.ensures.cost c.loop-value.invariant.spent;
    }

pub loop-value-smaller : goal.loop-value-smaller
loop-value-smaller g c =
    let left = c.pop.new.self.items in
    measure_falls (length c.loop-value.left.items) (length left) (length c.push_joined.new.values.items) (length c.loop-value.done.items) (length c.take_match.new.done.items)
    (length-from_push left c.loop-value.left.items c.in-Some.value c.in-Some.ensures.items)
    (length-from_push left c.push_joined.new.values.items (g.R.Join.join c.in-Some-take_match.other c.in-Some.value) c.in_ok-push_joined-in-Some-take_match.ensures)
    (one_less c.loop-value.done.items c.in-Some-take_match.other c.take_match.new.done.items c.in-Some-take_match.ensures.taken)

-- at last nothing is left
pub returns-clause-resolved : goal.returns-clause-resolved
returns-clause-resolved g c =
    let emptied : c.pop.new.self.items ≡ [] = rw c.in_default.ensures.cases.0 at c.in_default.ensures.rest in
    let none : c.loop-value.left.items ≡ [] = rw emptied at c.in_default.ensures.items in
    IsResolution-from_resolving g.met.R.Join.join_laws g.met.R.Resolvable.match_laws (c.args.apart.items ++ c.args.more.items) c.loop-value.done.items (rw none at c.loop-value.invariant.resolving)
