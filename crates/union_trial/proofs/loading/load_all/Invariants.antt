use Rattle.std.proofs.Common.{◌≡◌}
use Rattle.union_trial.specs.Streams.{AreLoaded}
use Rattle.union_trial.proofs.loading.load_all.Given as goal

abbrev pub invariant-loop-place : goal.invariant-loop-place
invariant-loop-place g l = record {
  names : l.catalogue.names ≡ l.initial.catalogue.names;
  loaded : AreLoaded l.seed l.count l.place l.catalogue.history;
}
