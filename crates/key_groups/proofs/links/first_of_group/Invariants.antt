-- the same labellings follow the links, and give the place at hand the label of the first
use Rattle.std.proofs.Common.{◌≡◌, ◌<◌, ℕ, length, get_or}
use Rattle.std.specs.Prelude.{◌↔◌}
use Rattle.key_groups.specs.Groups.{AreLinks, Follows}
use Rattle.key_groups.proofs.links.first_of_group.Given as goal

abbrev pub invariant-loop-at : goal.invariant-loop-at
invariant-loop-at l = record {
  links : AreLinks l.links;
  within : l.at < length l.links;
  kept : (label : ℕ → ℕ) → Follows l.links label ↔ Follows l.initial.links label;
  ends : (i : ℕ) → get_or l.initial.links i 0 ≡ i → get_or l.links i 0 ≡ i;
  one : (label : ℕ → ℕ) → Follows l.links label → label l.at ≡ label l.place;
}

abbrev pub decreases-loop-at : goal.decreases-loop-at
decreases-loop-at l = l.at
