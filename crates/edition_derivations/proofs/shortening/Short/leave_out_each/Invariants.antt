use Rattle.std.proofs.Common.{List, ◌≤◌, length}
use Rattle.catalogue_editions.specs.declared.edition.Edition.{Edition}
use Rattle.edition_derivations.specs.Shortened.{IsShortened}
use Rattle.edition_derivations.proofs.shortening.Short.leave_out_each.Given as goal

abbrev pub invariant-loop-end : goal.invariant-loop-end
invariant-loop-end l = record {
  within : l.end ≤ length l.self.kept.items;
  kept : (records : List Edition)
      → IsShortened records l.one l.other l.initial.self.kept.items l.initial.self.derivation.steps.items l.initial.self.derivation.edition
      → IsShortened records l.one l.other l.self.kept.items l.self.derivation.steps.items l.self.derivation.edition;
}

abbrev pub decreases-loop-end : goal.decreases-loop-end
decreases-loop-end l = l.end
