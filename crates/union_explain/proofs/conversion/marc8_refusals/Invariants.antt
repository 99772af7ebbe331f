use Rattle.std.proofs.Common.{◌≡◌, ◌++◌, drop}
use Rattle.union_words.specs.Meanings.{libraries_meaning}
use Rattle.union_explain.specs.Conversions.{marc8_refusals}
use Rattle.union_explain.proofs.conversion.marc8_refusals.Given as goal

-- those so far, and those of the libraries that are left, are all of them
abbrev pub invariant-loop-place : goal.invariant-loop-place
invariant-loop-place l = l.found.items ++ marc8_refusals l.report (drop l.place (libraries_meaning l.libraries)) ≡ marc8_refusals l.report (libraries_meaning l.libraries)
