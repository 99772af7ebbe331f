-- each place so far is linked to itself
use Rattle.std.proofs.Common.{◌≡◌, ◌<◌, ℕ, length, get_or}
use Rattle.key_groups.proofs.links.unlinked.Given as goal

abbrev pub invariant-loop-place : goal.invariant-loop-place
invariant-loop-place l = record {
  size : length l.links.items ≡ l.place;
  itself : (i : ℕ) → i < l.place → get_or l.links.items i 0 ≡ i;
}
