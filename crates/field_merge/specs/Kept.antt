-- What the lists of a content keep.
use Rattle.std.specs.Prelude.{Bool, ◌&&◌, nat_le, List, length}
use Rattle.union_base.specs.SortedLists.{is_ascending}
use Rattle.union_base.specs.RecordIds.{id_cmp}
use Rattle.union_base.specs.FieldOrder.{field_cmp}
use Rattle.union_base.specs.declared.record_id.RecordId.{RecordId}
use Rattle.union_base.specs.declared.field.Field.{Field}

-- one contributor at least, and both lists in order and without repeats
abbrev pub are_kept : List RecordId → List Field → Bool
are_kept contributors united = nat_le 1 (length contributors) && (is_ascending id_cmp contributors && is_ascending field_cmp united)
