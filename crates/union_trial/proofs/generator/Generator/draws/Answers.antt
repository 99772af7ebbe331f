use Rattle.std.proofs.Common.{refl}
use Rattle.union_trial.specs.Draws.{draws_of, state_behind}
use Rattle.union_trial.proofs.generator.Generator.draws.Goals as goal

pub returns-clause-state : goal.returns-clause-state
unfolding state_behind
returns-clause-state c =
    rw (c.draw-6.ensures.state, c.draw-5.ensures.state, c.draw-4.ensures.state, c.draw-3.ensures.state, c.draw-2.ensures.state, c.draw.ensures.state) refl

pub returns-clause-draws : goal.returns-clause-draws
unfolding draws_of
returns-clause-draws c =
    rw (
      c.draw.ensures.number,
      c.draw-2.ensures.number,
      c.draw-3.ensures.number,
      c.draw-4.ensures.number,
      c.draw-5.ensures.number,
      c.draw-6.ensures.number,
      c.draw-6.ensures.state,
      c.draw-5.ensures.state,
      c.draw-4.ensures.state,
      c.draw-3.ensures.state,
      c.draw-2.ensures.state,
      c.draw.ensures.state,
    )
    refl
