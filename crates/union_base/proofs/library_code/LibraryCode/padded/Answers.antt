use Rattle.union_base.specs.LibraryCodes.{padded_code}
use Rattle.union_base.proofs.library_code.LibraryCode.padded.Goals as goal

pub invariant_of-result : goal.invariant_of-result
invariant_of-result c = rw c.copy_from_slice.ensures.after (padded_code c.args.text.now c.requires)
