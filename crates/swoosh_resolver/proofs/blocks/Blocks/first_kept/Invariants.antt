-- no block under a number before the one at hand matches, and each that is found cost at most one test
use Rattle.std.proofs.Common.{◌≡◌, ◌+◌, ◌≤◌, false, take}
use Rattle.std.specs.Prelude.{count_by}
use Rattle.std.specs.List.{AllWithin}
use Rattle.swoosh_resolver.specs.Tables.{block_at}
use Rattle.swoosh_resolver.specs.Changes.{without}
use Rattle.swoosh_resolver.specs.Insertions.{passes}
use Rattle.swoosh_resolver.proofs.blocks.Blocks.first_kept.Given as goal

abbrev pub invariant-loop-number : goal.invariant-loop-number
invariant-loop-number g l = record {
  none : AllWithin (λ n. passes (λ e. g.R.Resolvable.meets l.value.value e.value) (block_at (without l.self.blocks l.closed) n) ≡ false) l.numbers 0 l.number-index;
  cost : l.steps ≤ l.initial.steps + count_by (λ n. passes (λ e. g.R.Resolvable.is_found e.value l.value.value) (block_at (without l.self.blocks l.closed) n)) (take l.number-index l.numbers);
}
