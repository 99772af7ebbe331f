use Rattle.std.proofs.Common.{◌≡◌, true, drop}
use Rattle.naco_normal.specs.Shown.{keeps_first}
use Rattle.naco_normal.proofs.WordsLemmas.{read_on}
use Rattle.naco_normal.proofs.letters.append_letters.Given as goal

abbrev pub invariant-loop-place : goal.invariant-loop-place
invariant-loop-place l = read_on l.form.items l.gap l.awaiting (drop l.place l.letters) ≡ read_on l.fn.form.items true (keeps_first l.fn.comma) l.letters
