-- Merging contents is idempotent, commutative and associative.
use Rattle.std.proofs.Common.{◌≡◌, true}
use Rattle.std.specs.Prelude.{◌&&◌, nat_le, length}
use Rattle.std.specs.Option.{option_cmp}
use Rattle.union_base.specs.Both.{both_true}
use Rattle.union_base.specs.SortedLists.{is_ascending}
use Rattle.union_base.specs.FieldOrder.{field_cmp}
use Rattle.union_base.specs.FieldLaws.{field_cmp-IsAntisymmetric}
use Rattle.union_base.specs.IdLaws.{ids_apart}
use Rattle.union_base.proofs.SortedListLaws.{union-idempotent, union-commutative, union-associative}
use Rattle.merge_laws.specs.Resolution.{JoinLaws}
use Rattle.union_base.specs.RecordIds.{id_cmp}
use Rattle.field_merge.specs.KeptLaws.{id_total, field_total}
use Rattle.field_merge.specs.Orders.{slot_cmp, fixed_cmp}
use Rattle.field_merge.specs.OrderLaws.{slot_total, optional_slot_total, fixed_total, slots_apart, optional_slots_apart, fixed_apart}
use Rattle.field_merge.specs.GreaterLaws.{greater-idempotent, greater-commutative, greater-associative}
use Rattle.field_merge.specs.Equal.{same_contents}
use Rattle.field_merge.specs.Merging.{join}
use Rattle.field_merge.specs.declared.content.Content.{Content}

module _ (c : Content) where
  lists_kept : (is_ascending id_cmp c.contributors ≡ true) × (is_ascending field_cmp c.united ≡ true)
  lists_kept =
      both_true (is_ascending id_cmp c.contributors) (is_ascending field_cmp c.united)
      (both_true (nat_le 1 (length c.contributors)) (is_ascending id_cmp c.contributors && is_ascending field_cmp c.united) c.kept).1

  -- a content's contributors ascend
  pub ascending_contributors : is_ascending id_cmp c.contributors ≡ true
  ascending_contributors = lists_kept.0

  -- a content's united fields ascend
  pub ascending_united : is_ascending field_cmp c.united ≡ true
  ascending_united = lists_kept.1

join-idempotent : (x : Content) → join x x ≡ x
join-idempotent x = same_contents (join x x) x (record {
  contributors = union-idempotent id_total ids_apart x.contributors (ascending_contributors x);
  fixed = greater-idempotent fixed_cmp x.fixed;
  f005 = greater-idempotent (option_cmp slot_cmp) x.f005;
  f010 = greater-idempotent (option_cmp slot_cmp) x.f010;
  f040 = greater-idempotent (option_cmp slot_cmp) x.f040;
  f1xx = greater-idempotent (option_cmp slot_cmp) x.f1xx;
  f240 = greater-idempotent (option_cmp slot_cmp) x.f240;
  f245 = greater-idempotent slot_cmp x.f245;
  united = union-idempotent field_total field_cmp-IsAntisymmetric x.united (ascending_united x);
})

join-commutative : (x y : Content) → join x y ≡ join y x
join-commutative x y =
    let greater_slot = greater-commutative (option_cmp slot_cmp) optional_slot_total optional_slots_apart in
    same_contents (join x y) (join y x) (record {
      contributors = union-commutative id_total ids_apart x.contributors y.contributors (ascending_contributors x) (ascending_contributors y);
      fixed = greater-commutative fixed_cmp fixed_total fixed_apart x.fixed y.fixed;
      f005 = greater_slot x.f005 y.f005;
      f010 = greater_slot x.f010 y.f010;
      f040 = greater_slot x.f040 y.f040;
      f1xx = greater_slot x.f1xx y.f1xx;
      f240 = greater_slot x.f240 y.f240;
      f245 = greater-commutative slot_cmp slot_total slots_apart x.f245 y.f245;
      united = union-commutative field_total field_cmp-IsAntisymmetric x.united y.united (ascending_united x) (ascending_united y);
    })

join-associative : (x y z : Content) → join (join x y) z ≡ join x (join y z)
join-associative x y z =
    let greater_slot = greater-associative (option_cmp slot_cmp) optional_slot_total in
    same_contents (join (join x y) z) (join x (join y z)) (record {
      contributors = union-associative id_total ids_apart x.contributors y.contributors z.contributors (ascending_contributors x);
      fixed = greater-associative fixed_cmp fixed_total x.fixed y.fixed z.fixed;
      f005 = greater_slot x.f005 y.f005 z.f005;
      f010 = greater_slot x.f010 y.f010 z.f010;
      f040 = greater_slot x.f040 y.f040 z.f040;
      f1xx = greater_slot x.f1xx y.f1xx z.f1xx;
      f240 = greater_slot x.f240 y.f240 z.f240;
      f245 = greater-associative slot_cmp slot_total x.f245 y.f245 z.f245;
      united = union-associative field_total field_cmp-IsAntisymmetric x.united y.united z.united (ascending_united x);
    })

-- to merge contents is idempotent, commutative and associative
pub join_laws : JoinLaws join
join_laws = record { idempotent = join-idempotent; commutative = join-commutative; associative = join-associative }
