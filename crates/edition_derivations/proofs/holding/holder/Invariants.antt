use Rattle.std.proofs.Common.{◌≡◌, false}
use Rattle.std.specs.List.{AllWithin}
use Rattle.edition_derivations.specs.Steps.{holds}
use Rattle.edition_derivations.proofs.holding.holder.Given as goal

abbrev pub invariant-loop-edition : goal.invariant-loop-edition
invariant-loop-edition l = AllWithin (λ e. holds e l.id ≡ false) l.editions 0 l.edition-index
