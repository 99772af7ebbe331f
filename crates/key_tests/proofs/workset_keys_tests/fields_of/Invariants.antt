use Rattle.std.proofs.Common.{All}
use Rattle.workset_keys.specs.Names.{HasTexts}
use Rattle.key_tests.proofs.workset_keys_tests.fields_of.Given as goal

abbrev pub invariant-loop-cell : goal.invariant-loop-cell
invariant-loop-cell l = All HasTexts l.fields.items
