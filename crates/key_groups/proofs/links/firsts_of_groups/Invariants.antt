-- the labels so far follow the links
use Rattle.std.proofs.Common.{◌≡◌, ◌<◌, ◌≤◌, ℕ, length, get_or}
use Rattle.key_groups.specs.Groups.{Follows}
use Rattle.key_groups.proofs.links.firsts_of_groups.Given as goal

abbrev pub invariant-loop-place : goal.invariant-loop-place
invariant-loop-place l = record {
  size : length l.labels.items ≡ l.place;
  earlier : (i : ℕ) → i < l.place → get_or l.labels.items i 0 ≤ i;
  follows : (i : ℕ) → i < l.place → get_or l.labels.items (get_or l.links i 0) 0 ≡ get_or l.labels.items i 0;
  only : (label : ℕ → ℕ) → Follows l.links label → (i : ℕ) → i < l.place → label (get_or l.labels.items i 0) ≡ label i;
}
