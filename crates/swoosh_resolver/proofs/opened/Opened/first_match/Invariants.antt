-- no value at a place before the one at hand matches, and each that is found cost at most one test
use Rattle.std.proofs.Common.{◌≡◌, ◌+◌, ◌≤◌, Some, false, take}
use Rattle.std.specs.Prelude.{count_by, map}
use Rattle.std.specs.List.{AllWithin}
use Rattle.swoosh_resolver.specs.Tables.{block_at}
use Rattle.swoosh_resolver.specs.Insertions.{passes}
use Rattle.swoosh_resolver.proofs.opened.Opened.first_match.Given as goal

abbrev pub invariant-loop-place : goal.invariant-loop-place
invariant-loop-place g l = record {
  none : AllWithin (λ n. passes (λ e. g.R.Resolvable.meets l.value.value e.value) (block_at (map Some l.self.items) n) ≡ false) l.place-items 0 l.place-index;
  cost : l.steps ≤ l.initial.steps + count_by (λ n. passes (λ e. g.R.Resolvable.is_found e.value l.value.value) (block_at (map Some l.self.items) n)) (take l.place-index l.place-items);
}
