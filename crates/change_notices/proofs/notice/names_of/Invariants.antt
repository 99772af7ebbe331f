use Rattle.std.proofs.Common.{◌≡◌, take}
use Rattle.std.specs.BTreeMap.{get}
use Rattle.union_base.specs.declared.record_id.RecordId.{RecordId}
use Rattle.union_base.specs.RecordIds.{id_cmp}
use Rattle.change_notices.specs.Naming.{last_name}
use Rattle.change_notices.proofs.notice.names_of.Given as goal

-- the editions so far gave their names
abbrev pub invariant-loop-edition : goal.invariant-loop-edition
invariant-loop-edition l = (q : RecordId) → get id_cmp l.names q ≡ last_name (take l.edition-index l.editions) q
