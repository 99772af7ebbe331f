use Rattle.std.proofs.Common.{◌*◌, ◌^◌, refl}
use Rattle.std.proofs.Math.Nat.{mod-add-mod}
use Rattle.union_trial.specs.Draws.{next_state, number_below}
use Rattle.union_trial.proofs.generator.Generator.draw.Goals as goal

pub returns-clause-state : goal.returns-clause-state
unfolding next_state
returns-clause-state c = mod-add-mod (c.args.self.now.state * 6364136223846793005) (2 ^ 64) 1442695040888963407

pub returns-clause-number : goal.returns-clause-number
unfolding number_below
returns-clause-number c = rw c.from.ensures refl
