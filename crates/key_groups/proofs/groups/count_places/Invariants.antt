-- the places so far are counted
use Rattle.std.proofs.Common.{◌≡◌, ◌≤◌, ℕ, length, get_or}
use Rattle.key_groups.proofs.Grouping.{AreCounted}
use Rattle.key_groups.proofs.groups.count_places.Given as goal

abbrev pub invariant-loop-label : goal.invariant-loop-label
invariant-loop-label l = record {
  size : length l.sizes ≡ length l.labels;
  bound : (k : ℕ) → get_or l.sizes k 0 ≤ l.label-index;
  counted : AreCounted l.sizes l.labels l.label-index;
}
