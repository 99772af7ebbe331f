-- the row is longer, and under each number stands what stood there
use Rattle.std.proofs.Common.{◌≡◌, ◌≤◌, ℕ, length}
use Rattle.std.specs.Prelude.{vec_capacity}
use Rattle.swoosh_resolver.specs.Tables.{block_at}
use Rattle.swoosh_resolver.proofs.install.lengthen.Given as goal

abbrev pub invariant-loop-place : goal.invariant-loop-place
invariant-loop-place g l = record {
  len : length l.blocks.items ≡ l.place;
  same : (n : ℕ) → block_at l.blocks.items n ≡ block_at l.initial.blocks.items n;
  capacity : vec_capacity l.initial.blocks ≤ vec_capacity l.blocks;
}
