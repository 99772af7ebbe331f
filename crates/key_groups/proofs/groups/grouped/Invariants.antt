-- the values so far are strangers, or in the groups of their labels
use Rattle.std.proofs.Common.{◌≡◌, ◌++◌, length, map}
use Rattle.key_groups.proofs.Grouping.{AreGrouped}
use Rattle.key_groups.proofs.groups.grouped.Given as goal

abbrev pub invariant-loop-value : goal.invariant-loop-value
invariant-loop-value g l = record {
  grouped : AreGrouped g.R.Resolvable.has_key l.fn.list.items l.labels l.sizes l.yielded l.strangers.items (map (λ group. group.items) l.groups.items);
  room : length l.groups.items ≡ length l.fn.list.items;
  place : l.place ≡ length l.yielded;
  all : l.fn.list.items ≡ l.yielded ++ l.value-iterator.rest.items;
}
