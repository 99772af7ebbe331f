use Rattle.edition_derivations.proofs.CommonLaws.{derivation-derives}
use Rattle.edition_derivations.proofs.laws.derivation_derives.Goals as goal

pub returns : goal.returns
returns c = derivation-derives
