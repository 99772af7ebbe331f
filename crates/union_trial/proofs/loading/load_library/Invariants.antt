use Rattle.std.proofs.Common.{◌≡◌, length}
use Rattle.union_trial.specs.Streams.{still_drawn}
use Rattle.union_trial.proofs.BlockLaws.{HasLoaded}
use Rattle.union_trial.proofs.loading.load_library.Given as goal

-- the batches of the blocks so far were applied
abbrev pub invariant-applying : goal.invariant-applying
invariant-applying g l = record {
  names : l.catalogue.names ≡ l.initial.catalogue.names;
  loaded : HasLoaded l.seed l.count l.place l.initial.catalogue.history l.catalogue.history (still_drawn l.draws);
}

abbrev pub decreases-applying : goal.decreases-applying
decreases-applying g l = length (still_drawn l.draws)
