-- What a batch alone leaves of its loads.
use Rattle.std.specs.Prelude.{Bool, true, List, [], Option, None, Some}
use Rattle.std.specs.Ordering.{is_gt}
use Rattle.std.specs.Map.{values_of}
use Rattle.union_base.specs.RecordIds.{id_cmp}
use Rattle.catalogue_editions.specs.CurrentRecords.{after_batch}
use Rattle.catalogue_editions.specs.Ids.{least}
use Rattle.catalogue_editions.specs.declared.batch.Batch.{Batch}
use Rattle.catalogue_editions.specs.declared.edition.Edition.{Edition}

-- for each control number whose last operation in the batch is a load, the edition of that load, in order of the ids: what the
-- batch would leave current over no records
abbrev pub net : Batch → List Edition
net batch = values_of (after_batch [] batch)

-- the least contributor is greater than that of the last edition, where there is one
abbrev pub is_behind : Option Edition → Edition → Bool
is_behind None e = true
is_behind (Some last) e = is_gt (id_cmp (least e) (least last))
