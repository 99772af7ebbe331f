-- What is known of records while they come together, and once they have.
use Rattle.std.specs.Prelude.{List, Contains}
use Rattle.merge_laws.specs.Resolution.{IsResolution}
use Rattle.catalogue_editions.specs.Joining.{join}
use Rattle.catalogue_editions.specs.Matching.{match}
use Rattle.catalogue_editions.specs.declared.edition.Edition.{Edition}
use Rattle.edition_derivations.specs.declared.step.Step.{Step}
use Rattle.edition_derivations.specs.Steps.{merged, IsKnown, AreSteps, LastHas}

-- the records came together by the steps, to the editions to which they resolve, and what the last step merges to is among these
pub record IsDerived (records : List Edition) (steps : List Step) (done : List Edition) : Type 0 where
  pub by : AreSteps records steps
  pub resolved : IsResolution match join records done
  pub known : (e : Edition) → Contains done e → IsKnown records steps e
  pub last : LastHas (λ s. Contains done (merged s)) steps
