use Rattle.std.proofs.Common.{◌≡◌, List, length}
use Rattle.union_trial.specs.Blocks.{AreAsked}
use Rattle.union_trial.specs.Streams.{still_drawn}
use Rattle.union_trial.specs.declared.draws.Draws.{Draws}
use Rattle.union_trial.proofs.loading.read_block.Given as goal

abbrev pub invariant-loop : goal.invariant-loop
invariant-loop l = record {
  taken : List Draws;
  are : AreAsked l.library (still_drawn l.initial.draws) (still_drawn l.draws) taken l.ops.items;
  size : length taken ≡ l.counter;
}
