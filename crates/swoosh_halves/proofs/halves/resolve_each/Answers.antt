use Rattle.std.proofs.Common.{◌≡◌, [], ◌∷◌, ◌++◌, sym, ◌∙◌, ap, subst, append_assoc, append-nil}
use Rattle.std.proofs.lemmas.List.{nil_from_length}
use Rattle.merge_laws.specs.Resolution.{IsResolution}
use Rattle.swoosh_halves.proofs.Joining.{strangers_resolved, resolved_more}
use Rattle.swoosh_halves.proofs.halves.resolve_each.Goals as goal

pub loop-group-init : goal.loop-group-init
loop-group-init g c = record {
  all = sym c.into_iter-group-iterator.ensures.into_iter_gives.0;
  resolved = subst (λ list. IsResolution g.R.Resolvable.meets g.R.Join.join list c.args.strangers.items) (sym (append-nil c.args.strangers.items))
      (strangers_resolved g.met.R.Join.join_laws g.met.R.Resolvable.match_laws g.met.R.Resolvable.key_laws c.args.strangers.items c.requires.strangers_apart);
}

pub loop-group-preserved : goal.loop-group-preserved
loop-group-preserved g c =
    let so = c.loop-group.invariant in
    let front = c.loop-group.yielded in
    let group = c.in-Some.group in
    let rest = c.next.new.self.rest.items in
    let whole : c.args.groups.items ≡ front ++ group ∷ rest = so.all ∙ ap (λ xs. front ++ xs) c.in-Some.ensures.steps.0 in
    rw c.in_ok-append.ensures.items
    (record {
      all = whole ∙ sym (append_assoc front (group ∷ []) rest);
      resolved = resolved_more g.met.R.Join.join_laws g.met.R.Resolvable.match_laws g.met.R.Resolvable.key_laws c.args.strangers.items c.args.groups.items front rest group
          (λ group. group.items) c.loop-group.all.items _ whole c.requires so.resolved c.in_ok-resolve_by_halves.ensures;
    })

pub returns : goal.returns
returns g c =
    let none : c.loop-group.group-iterator.rest.items ≡ [] = nil_from_length _ (sym c.loop-group.group-iterator.rest.ok.0 ∙ c.in-None.ensures.steps.0) in
    let all : c.args.groups.items ≡ c.loop-group.yielded = c.loop-group.invariant.all ∙ ap (λ xs. c.loop-group.yielded ++ xs) none ∙ append-nil c.loop-group.yielded in
    rw all c.loop-group.invariant.resolved
