use Rattle.std.proofs.Common.{◌≡◌, ◌||◌, take}
use Rattle.std.specs.BTreeSet.{contains}
use Rattle.union_base.specs.SortedLists.{has}
use Rattle.union_base.specs.declared.record_id.RecordId.{RecordId}
use Rattle.union_base.specs.RecordIds.{id_cmp}
use Rattle.change_notices.proofs.doubles.add_contributors.Given as goal

-- the contributors so far were added
abbrev pub invariant-loop-id : goal.invariant-loop-id
invariant-loop-id l = (q : RecordId) → contains id_cmp l.seen q ≡ (contains id_cmp l.initial.seen q || has id_cmp (take l.id-index l.ids) q)
