use Rattle.std.proofs.Common.{subst}
use Rattle.union_trial.specs.Trials.{IsTrial}
use Rattle.union_program.proofs.run.run_trial.Goals as goal

pub returns-clause-other : goal.returns-clause-other
returns-clause-other g c =
    λ usage. subst (IsTrial c.seed.result c.count.result _) usage c.trial_run.ensures
