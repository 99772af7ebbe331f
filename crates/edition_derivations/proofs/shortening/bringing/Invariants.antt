use Rattle.edition_derivations.specs.Shortened.{IsShortened}
use Rattle.edition_derivations.proofs.shortening.bringing.Given as goal

abbrev pub invariant-loop-size : goal.invariant-loop-size
invariant-loop-size l = IsShortened l.records l.one l.other l.short.kept.items l.short.derivation.steps.items l.short.derivation.edition

abbrev pub decreases-loop-size : goal.decreases-loop-size
decreases-loop-size l = l.size
