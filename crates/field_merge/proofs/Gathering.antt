-- What one field more does to the parts of a record, and that a record with a title has one.
use Rattle.std.proofs.Common.{◌≡◌, ℕ, ◌+◌, Bool, true, false, cond, ◌&&◌, IsTrue, List, [], ◌∷◌, ◌++◌, refl, sym, ap, subst, ◌∙◌, arith}
use Rattle.std.specs.Prelude.{find, filter, count_by, Contains, IfSome, IsSome, ◌==◌, codes}
use Rattle.std.specs.List.{list_all}
use Rattle.std.specs.declared.option.Option.{Option}
use Rattle.std.specs.declared.option.Option.TheVariants.{Some, None}
use Rattle.std.specs.Option.{option_map, unwrap_or}
use Rattle.std.proofs.lemmas.Bool.Decides.{nat_tests}
use Rattle.std.proofs.lemmas.List.{append-nil}
use Rattle.std.proofs.lemmas.List.Elements.{filter-append}
use Rattle.std.proofs.lemmas.List.Sums.{sum_by-cons}
use Rattle.union_base.specs.Both.{both_true}
use Rattle.union_base.specs.declared.field.Field.{Field}
use Rattle.marc_parts.specs.declared.marc_record.Record.{Record}
use Rattle.marc_parts.specs.Parts.{has_tag, first_under, how_many}
use Rattle.marc_parts.specs.Loads.{is_utf8_field, is_load_status, is_numbered, is_described, is_loadable}
use Rattle.field_merge.specs.Contents.{is_main_entry, is_united, slot, untitled}
use Rattle.field_merge.specs.Parts.{IsPart, filled, IsPut, ArePartsOf}
use Rattle.field_merge.proofs.Members.{member-find}
use Rattle.field_merge.specs.declared.rank.Rank.{Rank}
use Rattle.field_merge.specs.declared.slot.Slot.{Slot}
use Rattle.field_merge.specs.declared.parts.Part.{Part}
use Rattle.field_merge.specs.declared.parts.SlotFields.{SlotFields}

module _ {X : Type 0} (p : X → Bool) (g : X → Slot) where
  -- the first that passes, among the values and one more
  pub first-more : (xs : List X) (x : X) → filled (p x) (option_map g (find p xs)) (g x) ≡ option_map g (find p (xs ++ x ∷ []))
  first-more [] x = elim (p x) as (λ b. filled b None (g x) ≡ option_map g (cond b (Some x) None)) [ true ↦ refl | false ↦ refl ]
  first-more (y ∷ ys) x =
      elim (p y) as (λ b. filled (p x) (option_map g (cond b (Some y) (find p ys))) (g x) ≡ option_map g (cond b (Some y) (find p (ys ++ x ∷ [])))) [
        | true ↦ elim (p x) as (λ b. filled b (Some (g y)) (g x) ≡ Some (g y)) [ true ↦ refl | false ↦ refl ]
        | false ↦ first-more ys x
      ]

-- those that pass, among the values and one more
passed-more : {X : Type 0} (p : X → Bool) (xs : List X) (x : X) → cond (p x) (filter p xs ++ x ∷ []) (filter p xs) ≡ filter p (xs ++ x ∷ [])
passed-more {X} p xs x =
    elim (p x) as (λ b. cond b (filter p xs ++ x ∷ []) (filter p xs) ≡ filter p xs ++ cond b (x ∷ []) []) [
      | true ↦ refl
      | false ↦ sym (append-nil (filter p xs))
    ] ∙ sym (filter-append p xs (x ∷ []))

-- where one value passes there is a first one
pub first-from_count : {X : Type 0} (p : X → Bool) (xs : List X) → count_by p xs ≡ 1 → (x : X) × (find p xs ≡ Some x)
first-from_count p [] e = absurd (omega arith)
first-from_count {X} p (y ∷ ys) e =
    let total : cond {A = ℕ} (p y) 1 0 + count_by p ys ≡ 1 = sym (sum_by-cons (λ x. cond (p x) 1 0) y ys) ∙ e in
    elim (p y) as (λ b. cond {A = ℕ} b 1 0 + count_by p ys ≡ 1 → (x : X) × (cond b (Some y) (find p ys) ≡ Some x)) [
      | true ↦ λ h. (y, refl)
      | false ↦ λ h. first-from_count p ys (omega arith)
    ] total

-- the parts after one field more
module _ (k : Rank) (part : Part) (fields : List Field) (field : Field) where
  slot-more : (p : Field → Bool) (before after : Option Slot) (fits : Bool) → p field ≡ fits
      → before ≡ option_map (slot k) (find p fields) → after ≡ filled fits before (slot k field)
      → after ≡ option_map (slot k) (find p (fields ++ field ∷ []))
  slot-more p before after fits test was now =
      now ∙ (λ i. filled (sym test i) (was i) (slot k field)) ∙ first-more p (slot k) fields field

  pub parts-more : (before after : SlotFields) → IsPart field part → ArePartsOf k fields before → IsPut k part field before after
      → ArePartsOf k (fields ++ field ∷ []) after
  parts-more before after is was now = record {
    f005 = slot-more (has_tag (codes "005")) _ _ _ is.stamp was.f005 now.f005;
    f010 = slot-more (has_tag (codes "010")) _ _ _ is.number was.f010 now.f010;
    f040 = slot-more (has_tag (codes "040")) _ _ _ is.source was.f040 now.f040;
    f1xx = slot-more is_main_entry _ _ _ is.main_entry was.f1xx now.f1xx;
    f240 = slot-more (has_tag (codes "240")) _ _ _ is.uniform_title was.f240 now.f240;
    f245 = slot-more (has_tag (codes "245")) _ _ _ is.title was.f245 now.f245;
    united =
        now.united ∙ (λ i. cond (sym is.united i) (was.united i ++ field ∷ []) (was.united i)) ∙ passed-more is_united fields field;
  }

-- a record that can be loaded has a title
pub title-from_loadable : (r : Record) → IsTrue (is_loadable r) → (x : Field) × (first_under (codes "245") r.fields ≡ Some x)
title-from_loadable r loadable =
    let described = (both_true (is_described r) (list_all is_utf8_field r.fields) (both_true (is_load_status r.leader.status && is_numbered r) _ loadable).1).0 in
    let one = (both_true _ (how_many (codes "245") r.fields == 1) described).1 in
    first-from_count (has_tag (codes "245")) r.fields (grind (arith, nat_tests, one))

pub some-from_parts : (k : Rank) (r : Record) (parts : SlotFields) → IsTrue (is_loadable r) → ArePartsOf k r.fields parts → IsSome parts.f245
some-from_parts k r parts loadable are =
    let (x, e) = title-from_loadable r loadable in
    subst IsSome (sym (are.f245 ∙ ap (option_map (slot k)) e)) refl

-- the title, where there is one
pub title-is : (k : Rank) (o : Option Field) (s : Slot) → option_map (slot k) o ≡ Some s → s ≡ slot k (unwrap_or o untitled)
title-is k None s e = cc
title-is k (Some x) s e = cc

-- the field of a slot, and the title, stand in the record
pub slot-within : (k : Rank) (p : Field → Bool) (fields : List Field) → IfSome (option_map (slot k) (find p fields)) (λ s. Contains fields s.field)
slot-within k p fields =
    elim (find p fields) as (λ o. find p fields ≡ o → IfSome (option_map (slot k) o) (λ s. Contains fields s.field)) [
      | None ↦ λ e. tt
      | Some x ↦ λ e. member-find p fields x e
    ] refl

pub title-within : (r : Record) → IsTrue (is_loadable r) → Contains r.fields (unwrap_or (first_under (codes "245") r.fields) untitled)
title-within r loadable =
    let (x, e) = title-from_loadable r loadable in
    subst (λ o. Contains r.fields (unwrap_or o untitled)) (sym e) (member-find (has_tag (codes "245")) r.fields x e)
