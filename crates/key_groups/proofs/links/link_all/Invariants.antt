-- the places of the pairs so far are joined
use Rattle.std.proofs.Common.{◌≡◌, ◌++◌, ℕ, length}
use Rattle.std.specs.Prelude.{◌↔◌}
use Rattle.key_groups.specs.Groups.{AreLinks, Follows}
use Rattle.key_groups.specs.Notes.{JoinsPairs}
use Rattle.key_groups.proofs.links.link_all.Given as goal

abbrev pub invariant-loop-pair : goal.invariant-loop-pair
invariant-loop-pair l = record {
  all : l.fn.pairs.items ≡ l.yielded ++ l.pair-iterator.rest.items;
  size : length l.links ≡ length l.initial.links;
  links : AreLinks l.links;
  joined : (label : ℕ → ℕ) → Follows l.links label ↔ (Follows l.initial.links label × JoinsPairs l.yielded label);
}
