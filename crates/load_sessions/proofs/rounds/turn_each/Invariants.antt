use Rattle.std.proofs.Common.{◌≡◌, ◌≤◌, ◌+◌, ◌*◌, ◌++◌, length}
use Rattle.catalogue_lock.specs.Tokens.{view, IsPassOf, IsSamePass}
use Rattle.library_batches.specs.Batches.{block_size}
use Rattle.library_batches.specs.Outcomes.{AreCounted, counted}
use Rattle.library_batches.specs.Tallies.{found}
use Rattle.load_sessions.proofs.rounds.turn_each.Given as goal

-- the batches so far were turned, and what came of them was counted
abbrev pub invariant-loop-batch : goal.invariant-loop-batch
invariant-loop-batch g l = record {
  all : l.fn.batches.items ≡ l.yielded ++ l.batch-iterator.rest.items;
  desk : IsPassOf l.pass l.turning.desk.now;
  same : IsSamePass l.fn.pass l.pass;
  own : (view l.pass).own ≡ (view l.fn.pass).own ++ l.yielded;
  brought : AreCounted (found (view l.pass).seen (view l.pass).number) l.counts;
  few : counted l.counts ≤ counted l.fn.counts + block_size * length l.yielded;
  place : l.turn ≡ l.fn.first + length l.yielded;
}
