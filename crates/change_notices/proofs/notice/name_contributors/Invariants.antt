use Rattle.std.proofs.Common.{◌≡◌, take, cond, Some}
use Rattle.std.specs.BTreeMap.{get}
use Rattle.union_base.specs.SortedLists.{has}
use Rattle.union_base.specs.declared.record_id.RecordId.{RecordId}
use Rattle.union_base.specs.RecordIds.{id_cmp}
use Rattle.catalogue_editions.specs.Ids.{least}
use Rattle.change_notices.proofs.notice.name_contributors.Given as goal

-- the contributors so far have the name
abbrev pub invariant-loop-id : goal.invariant-loop-id
invariant-loop-id l = (q : RecordId) → get id_cmp l.names q ≡ cond (has id_cmp (take l.id-index l.ids) q) (Some (least l.edition)) (get id_cmp l.initial.names q)
