-- A merge of sound contents is sound.
use Rattle.std.proofs.Common.{◌≡◌, Bool, true, ◌&&◌, IsTrue}
use Rattle.std.specs.Prelude.{codes}
use Rattle.std.specs.List.{list_all}
use Rattle.std.specs.Option.{option_cmp}
use Rattle.union_base.specs.Both.{both_true, true_both}
use Rattle.union_base.specs.FieldOrder.{field_cmp}
use Rattle.marc_parts.specs.Parts.{has_tag}
use Rattle.field_merge.specs.Contents.{is_main_entry, is_united}
use Rattle.union_base.specs.RecordIds.{id_cmp}
use Rattle.field_merge.specs.Orders.{slot_cmp, fixed_cmp}
use Rattle.field_merge.specs.Merging.{join}
use Rattle.field_merge.specs.declared.content.Content.{Content}
use Rattle.catalogue_editions.specs.Sound.{is_id, is_storable, is_fixed_part, is_slot, is_slot_or_none, are_slots, are_united, is_sound}
use Rattle.catalogue_editions.specs.ListLaws.{all-union, one-greater}

-- the tests of a sound content
pub record AreSoundParts (c : Content) : Type 0 where
  pub ids : list_all is_id c.contributors ≡ true
  pub fixed : is_fixed_part c.fixed ≡ true
  pub f005 : is_slot_or_none (has_tag (codes "005")) c.f005 ≡ true
  pub f010 : is_slot_or_none (has_tag (codes "010")) c.f010 ≡ true
  pub f040 : is_slot_or_none (has_tag (codes "040")) c.f040 ≡ true
  pub f1xx : is_slot_or_none is_main_entry c.f1xx ≡ true
  pub f240 : is_slot_or_none (has_tag (codes "240")) c.f240 ≡ true
  pub f245 : is_slot (has_tag (codes "245")) c.f245 ≡ true
  pub storable : list_all is_storable c.united ≡ true
  pub united : list_all is_united c.united ≡ true

module _ (c : Content) where
  abbrev t005 : Bool
  t005 = is_slot_or_none (has_tag (codes "005")) c.f005

  abbrev t010 : Bool
  t010 = is_slot_or_none (has_tag (codes "010")) c.f010

  abbrev t040 : Bool
  t040 = is_slot_or_none (has_tag (codes "040")) c.f040

  abbrev t1xx : Bool
  t1xx = is_slot_or_none is_main_entry c.f1xx

  abbrev t240 : Bool
  t240 = is_slot_or_none (has_tag (codes "240")) c.f240

  abbrev t245 : Bool
  t245 = is_slot (has_tag (codes "245")) c.f245

  -- what a sound content's parts are
  pub sound_parts : IsTrue (is_sound c) → AreSoundParts c
  unfolding is_sound
  sound_parts sound =
      let halves = both_true (list_all is_id c.contributors && is_fixed_part c.fixed) (are_slots c && are_united c.united) sound in
      let front = both_true (list_all is_id c.contributors) (is_fixed_part c.fixed) halves.0 in
      let back = both_true (are_slots c) (are_united c.united) halves.1 in
      let slots = both_true ((t005 && t010) && (t040 && t1xx)) (t240 && t245) back.0 in
      let four = both_true (t005 && t010) (t040 && t1xx) slots.0 in
      let one = both_true t005 t010 four.0 in
      let two = both_true t040 t1xx four.1 in
      let three = both_true t240 t245 slots.1 in
      let rest = both_true (list_all is_storable c.united) (list_all is_united c.united) back.1 in
      record {
        ids = front.0;
        fixed = front.1;
        f005 = one.0;
        f010 = one.1;
        f040 = two.0;
        f1xx = two.1;
        f240 = three.0;
        f245 = three.1;
        storable = rest.0;
        united = rest.1;
      }

  -- a content of such parts is sound
  pub sound_whole : AreSoundParts c → IsTrue (is_sound c)
  unfolding is_sound
  sound_whole s =
      true_both (list_all is_id c.contributors && is_fixed_part c.fixed) (are_slots c && are_united c.united)
      (true_both (list_all is_id c.contributors) (is_fixed_part c.fixed) s.ids s.fixed)
      (true_both (are_slots c) (are_united c.united)
      (true_both ((t005 && t010) && (t040 && t1xx)) (t240 && t245)
      (true_both (t005 && t010) (t040 && t1xx) (true_both t005 t010 s.f005 s.f010) (true_both t040 t1xx s.f040 s.f1xx))
      (true_both t240 t245 s.f240 s.f245))
      (true_both (list_all is_storable c.united) (list_all is_united c.united) s.storable s.united))

-- two sound contents merge to a sound one
pub sound-join : (a b : Content) → IsTrue (is_sound a) → IsTrue (is_sound b) → IsTrue (is_sound (join a b))
sound-join a b left right =
    let x = sound_parts a left in
    let y = sound_parts b right in
    let slots = one-greater (option_cmp slot_cmp) in
    sound_whole (join a b) (record {
      ids = all-union id_cmp is_id a.contributors b.contributors x.ids y.ids;
      fixed = one-greater fixed_cmp is_fixed_part a.fixed b.fixed x.fixed y.fixed;
      f005 = slots (is_slot_or_none (has_tag (codes "005"))) a.f005 b.f005 x.f005 y.f005;
      f010 = slots (is_slot_or_none (has_tag (codes "010"))) a.f010 b.f010 x.f010 y.f010;
      f040 = slots (is_slot_or_none (has_tag (codes "040"))) a.f040 b.f040 x.f040 y.f040;
      f1xx = slots (is_slot_or_none is_main_entry) a.f1xx b.f1xx x.f1xx y.f1xx;
      f240 = slots (is_slot_or_none (has_tag (codes "240"))) a.f240 b.f240 x.f240 y.f240;
      f245 = one-greater slot_cmp (is_slot (has_tag (codes "245"))) a.f245 b.f245 x.f245 y.f245;
      storable = all-union field_cmp is_storable a.united b.united x.storable y.storable;
      united = all-union field_cmp is_united a.united b.united x.united y.united;
    })
