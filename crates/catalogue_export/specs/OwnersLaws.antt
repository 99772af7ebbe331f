-- A content keeps its lists in order with other united fields.
use Rattle.std.proofs.Common.{◌&&◌, IsTrue, List, [], length, refl}
use Rattle.std.specs.Prelude.{nat_le}
use Rattle.union_base.specs.Both.{both_true, true_both}
use Rattle.union_base.specs.FieldOrder.{field_cmp}
use Rattle.union_base.specs.SortedLists.{is_ascending, set_of}
use Rattle.union_base.specs.declared.field.Field.{Field}
use Rattle.union_base.proofs.SortedListLaws.{is_ascending-union}
use Rattle.field_merge.specs.Kept.{are_kept}
use Rattle.union_base.specs.RecordIds.{id_cmp}
use Rattle.field_merge.specs.KeptLaws.{field_total}
use Rattle.field_merge.specs.declared.content.Content.{Content}

-- the contributors of a content, and the set of some fields
pub kept-united : (c : Content) (fields : List Field) → IsTrue (are_kept c.contributors (set_of field_cmp fields))
kept-united c fields =
    let some = both_true (nat_le 1 (length c.contributors)) (is_ascending id_cmp c.contributors && is_ascending field_cmp c.united) c.kept in
    true_both (nat_le 1 (length c.contributors)) (is_ascending id_cmp c.contributors && is_ascending field_cmp (set_of field_cmp fields)) some.0
    (true_both (is_ascending id_cmp c.contributors) (is_ascending field_cmp (set_of field_cmp fields))
    (both_true (is_ascending id_cmp c.contributors) (is_ascending field_cmp c.united) some.1).0 (is_ascending-union field_total [] fields refl))
