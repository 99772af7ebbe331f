use Rattle.std.proofs.Common.{◌≡◌, take}
use Rattle.naco_normal.specs.Normal.{with_plain_letters, without_deleted}
use Rattle.naco_normal.proofs.letters.letters.Given as goal

abbrev pub invariant-loop-c : goal.invariant-loop-c
invariant-loop-c l = l.letters.items ≡ with_plain_letters (without_deleted (take l.c-index l.c-items))
