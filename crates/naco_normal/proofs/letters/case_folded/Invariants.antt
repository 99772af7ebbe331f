use Rattle.std.proofs.Common.{◌≡◌, take}
use Rattle.caseless.specs.Caseless.{default_case_fold}
use Rattle.naco_normal.proofs.letters.case_folded.Given as goal

abbrev pub invariant-loop-c : goal.invariant-loop-c
invariant-loop-c l = l.folded.items ≡ default_case_fold (take l.c-index l.source)
