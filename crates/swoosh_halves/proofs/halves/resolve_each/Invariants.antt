-- the strangers and the groups so far are resolved
use Rattle.std.proofs.Common.{◌≡◌, ◌++◌, map}
use Rattle.merge_laws.specs.Resolution.{IsResolution}
use Rattle.key_groups.specs.Groups.{together}
use Rattle.swoosh_halves.proofs.halves.resolve_each.Given as goal

abbrev pub invariant-loop-group : goal.invariant-loop-group
invariant-loop-group g l = record {
  all : l.fn.groups.items ≡ l.yielded ++ l.group-iterator.rest.items;
  resolved : IsResolution g.R.Resolvable.meets g.R.Join.join (l.fn.strangers.items ++ together (map (λ group. group.items) l.yielded)) l.all.items;
}
