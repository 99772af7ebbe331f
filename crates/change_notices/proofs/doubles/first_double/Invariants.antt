use Rattle.std.proofs.Common.{take}
use Rattle.std.specs.BTreeSet.{contains}
use Rattle.union_base.specs.RecordIds.{id_cmp}
use Rattle.change_notices.proofs.DoubleLaws.{Sees, Looked}
use Rattle.change_notices.proofs.doubles.first_double.Given as goal

-- the contributors of the editions so far were seen
abbrev pub invariant-loop-edition : goal.invariant-loop-edition
invariant-loop-edition l = Sees (λ q. contains id_cmp l.seen q) (take l.edition-index l.staying)

-- and those of the opened editions so far, of which none is double
abbrev pub invariant-loop-at : goal.invariant-loop-at
invariant-loop-at l = Looked (λ q. contains id_cmp l.seen q) l.staying l.opened l.at
