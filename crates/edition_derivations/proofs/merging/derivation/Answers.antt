use Rattle.std.proofs.Common.{subst}
use Rattle.edition_derivations.specs.Deriving.{IsDerived}
use Rattle.edition_derivations.proofs.OneEdition.{derivation-of}
use Rattle.edition_derivations.proofs.merging.derivation.Goals as goal

pub returns : goal.returns
returns c =
    let merging = c.in_ok-merging.merging in
    rw c.into_steps.ensures
    (derivation-of c.args.records.now c.args.edition.now merging.steps.items merging.done.items c.requires
    (subst (λ records. IsDerived records merging.steps.items merging.done.items) c.in_ok-members.ensures c.in_ok-merging.ensures))
