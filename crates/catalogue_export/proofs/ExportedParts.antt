-- The fields of an exported record: those that always stand in it, and the others.
use Rattle.std.proofs.Common.{◌≡◌, ℕ, ◌+◌, ◌-◌, ◌≤◌, Bool, true, false, ◌||◌, List, [], ◌∷◌, ◌++◌, append_assoc, refl, sym, ◌∙◌, ap, arith, Option, None, Some}
use Rattle.std.specs.Prelude.{codes, if◌then◌else◌}
use Rattle.std.specs.List.{list_all, flat_map}
use Rattle.std.proofs.lemmas.Bool.{and_parts, and_from, not-true, or_parts, or_left, or_right}
use Rattle.std.proofs.lemmas.List.Folds.{list_all-append}
use Rattle.std.proofs.lemmas.Slice.Eq.{bytes_eq-Decides}
use Rattle.union_base.specs.Fields.{is_field}
use Rattle.union_base.specs.Bodies.{Body}
use Rattle.union_base.specs.declared.field.Field.{Field}
use Rattle.union_base.specs.declared.record_id.RecordId.{RecordId}
use Rattle.marc_parts.specs.Parts.{has_tag}
use Rattle.marc_rules.specs.RequiredFields.{is_same}
use Rattle.catalogue_export.proofs.ClassNumbers.{class_number}
use Rattle.field_merge.specs.Contents.{is_main_entry, has_slot, is_made_anew, is_united}
use Rattle.field_merge.specs.declared.content.Content.{Content}
use Rattle.field_merge.specs.declared.slot.Slot.{Slot}
use Rattle.catalogue_core.specs.Sound.{is_id, is_storable, is_slot_or_none, is_sound}
use Rattle.catalogue_export.specs.Fitting.{taken_by, fitting_in, fitting}
use Rattle.catalogue_export.specs.TagOrder.{in_tag_order}
use Rattle.catalogue_export.specs.Exported.{field_of, control_field, slot_field, number_field, slot_fields, key_field, contributor_field, own_parts, parts}
use Rattle.catalogue_export.proofs.CountLaws.{weighed, weighed-append}
use Rattle.catalogue_export.proofs.FieldLaws.{field_of-is}
use Rattle.catalogue_export.proofs.FittingLaws.{fitting_in-first, fitting_in-all}
use Rattle.catalogue_export.proofs.SoundLaws.{sound-ids, sound-slots, sound-united}
use Rattle.catalogue_export.proofs.TagOrderLaws.{in_tag_order-all}

-- what holds of a field holds of those that were made of its tag and body
made-all_by : (q : Field → Bool) (tag : List ℕ) (body : Body) → ((fits : is_field tag body ≡ true) → q (record { tag = tag; body = body; well_formed = fits }) ≡ true)
    → (b : Bool) (found : is_field tag body ≡ b)
    → list_all q (elim b as (λ answer. is_field tag body ≡ answer → List Field) [
      | true ↦ λ fits. record { tag = tag; body = body; well_formed = fits } ∷ []
      | false ↦ λ _. []
    ] found) ≡ true
made-all_by q tag body each true found = and_from _ true (each found) refl
made-all_by q tag body each false found = refl

pub made-all : (q : Field → Bool) (tag : List ℕ) (body : Body) → ((fits : is_field tag body ≡ true) → q (record { tag = tag; body = body; well_formed = fits }) ≡ true)
    → list_all q (field_of tag body) ≡ true
unfolding field_of
made-all q tag body each = made-all_by q tag body each (is_field tag body) refl

made-most_by : (w : Field → ℕ) (most : ℕ) (tag : List ℕ) (body : Body)
    → ((fits : is_field tag body ≡ true) → w (record { tag = tag; body = body; well_formed = fits }) ≤ most)
    → (b : Bool) (found : is_field tag body ≡ b)
    → weighed w (elim b as (λ answer. is_field tag body ≡ answer → List Field) [
      | true ↦ λ fits. record { tag = tag; body = body; well_formed = fits } ∷ []
      | false ↦ λ _. []
    ] found) ≤ most
made-most_by w most tag body each true found = omega (arith, each found)
made-most_by w most tag body each false found = omega arith

pub made-most : (w : Field → ℕ) (most : ℕ) (tag : List ℕ) (body : Body)
    → ((fits : is_field tag body ≡ true) → w (record { tag = tag; body = body; well_formed = fits }) ≤ most) → weighed w (field_of tag body) ≤ most
unfolding field_of
made-most w most tag body each = made-most_by w most tag body each (is_field tag body) refl

-- a field that was made weighs what it weighs
pub made-weighs : (w : Field → ℕ) (f : Field) → weighed w (field_of f.tag f.body) ≡ w f
made-weighs w f = ap (weighed w) (field_of-is f) ∙ alone (w f)
  where
    alone : (n : ℕ) → n + 0 ≡ n
    alone n = omega arith

pub slot-most : (w : Field → ℕ) (most : ℕ) (fits : Field → Bool) → ((f : Field) → fits f ≡ true → is_storable f ≡ true → w f ≤ most)
    → (slot : Option Slot) → is_slot_or_none fits slot ≡ true → weighed w (slot_field slot) ≤ most
slot-most w most fits each None is = omega arith
slot-most w most fits each (Some s) is =
    let both = and_parts (fits s.field) (is_storable s.field) is in
    omega (arith, each s.field both.0 both.1)

-- the parts that always stand in the record
abbrev pub front_parts : Content → List ℕ → List Field
front_parts c key = number_field c.contributors ++ (control_field (codes "003") (codes "UNION") ++ (slot_fields c ++ key_field key))

-- the others
abbrev pub other_parts : Content → List Field
other_parts c = flat_map contributor_field c.contributors ++ c.united

parts-split : (c : Content) (key : List ℕ) → parts c key ≡ front_parts c key ++ other_parts c
unfolding own_parts
parts-split c key =
    regrouped (number_field c.contributors) (control_field (codes "003") (codes "UNION")) (slot_fields c) (key_field key) (flat_map contributor_field c.contributors) c.united
  where
    regrouped : (a b s k d u : List Field) → (a ++ (b ++ (s ++ (k ++ d)))) ++ u ≡ (a ++ (b ++ (s ++ k))) ++ (d ++ u)
    regrouped a b s k d u = simp append_assoc

-- what lists weigh one after the other
weights : (w : Field → ℕ) (a b s5 e s10 s40 s1 s24 l k : List Field)
    → weighed w (a ++ (b ++ ((s5 ++ (e ++ (s10 ++ (s40 ++ (s1 ++ (s24 ++ l)))))) ++ k)))
    ≡ weighed w a + (weighed w b + ((weighed w s5 + (weighed w e + (weighed w s10 + (weighed w s40 + (weighed w s1 + (weighed w s24 + weighed w l)))))) + weighed w k))
weights w a b s5 e s10 s40 s1 s24 l k =
    weighed-append w a _ ∙ ap (λ n. weighed w a + n)
    (weighed-append w b _ ∙ ap (λ n. weighed w b + n)
    (weighed-append w (s5 ++ (e ++ (s10 ++ (s40 ++ (s1 ++ (s24 ++ l)))))) k ∙ ap (λ n. n + weighed w k)
    (weighed-append w s5 _ ∙ ap (λ n. weighed w s5 + n)
    (weighed-append w e _ ∙ ap (λ n. weighed w e + n)
    (weighed-append w s10 _ ∙ ap (λ n. weighed w s10 + n)
    (weighed-append w s40 _ ∙ ap (λ n. weighed w s40 + n)
    (weighed-append w s1 _ ∙ ap (λ n. weighed w s1 + n) (weighed-append w s24 l))))))))

-- at most what each part weighs at most
pub record AreAtMost (w : Field → ℕ) (c : Content) (key : List ℕ) (a b s5 e s10 s40 s1 s24 l k : ℕ) : Type 0 where
  pub number : weighed w (number_field c.contributors) ≤ a
  pub name : weighed w (control_field (codes "003") (codes "UNION")) ≤ b
  pub f005 : weighed w (slot_field c.f005) ≤ s5
  pub fixed : weighed w (control_field (codes "008") c.fixed.text) ≤ e
  pub f010 : weighed w (slot_field c.f010) ≤ s10
  pub f040 : weighed w (slot_field c.f040) ≤ s40
  pub f1xx : weighed w (slot_field c.f1xx) ≤ s1
  pub f240 : weighed w (slot_field c.f240) ≤ s24
  pub f245 : weighed w (c.f245.field ∷ []) ≤ l
  pub key_part : weighed w (key_field key) ≤ k

add_up : (all a b s5 e s10 s40 s1 s24 l k a' b' s5' e' s10' s40' s1' s24' l' k' : ℕ)
    → all ≡ a + (b + ((s5 + (e + (s10 + (s40 + (s1 + (s24 + l)))))) + k)) → a ≤ a' → b ≤ b' → s5 ≤ s5' → e ≤ e' → s10 ≤ s10' → s40 ≤ s40' → s1 ≤ s1'
    → s24 ≤ s24' → l ≤ l' → k ≤ k' → all ≤ a' + (b' + ((s5' + (e' + (s10' + (s40' + (s1' + (s24' + l')))))) + k'))
add_up all a b s5 e s10 s40 s1 s24 l k a' b' s5' e' s10' s40' s1' s24' l' k' sum p1 p2 p3 p4 p5 p6 p7 p8 p9 p10 = omega arith

module _ (w : Field → ℕ) (c : Content) (key : List ℕ) where
  front-weights : weighed w (front_parts c key) ≡ weighed w (number_field c.contributors) + (weighed w (control_field (codes "003") (codes "UNION"))
      + ((weighed w (slot_field c.f005) + (weighed w (control_field (codes "008") c.fixed.text) + (weighed w (slot_field c.f010) + (weighed w (slot_field c.f040)
      + (weighed w (slot_field c.f1xx) + (weighed w (slot_field c.f240) + weighed w (c.f245.field ∷ []))))))) + weighed w (key_field key)))
  front-weights =
      weights w (number_field c.contributors) (control_field (codes "003") (codes "UNION")) (slot_field c.f005) (control_field (codes "008") c.fixed.text)
      (slot_field c.f010) (slot_field c.f040) (slot_field c.f1xx) (slot_field c.f240) (c.f245.field ∷ []) (key_field key)

  pub front-most : (a b s5 e s10 s40 s1 s24 l k : ℕ) → AreAtMost w c key a b s5 e s10 s40 s1 s24 l k
      → weighed w (front_parts c key) ≤ a + (b + ((s5 + (e + (s10 + (s40 + (s1 + (s24 + l)))))) + k))
  front-most a b s5 e s10 s40 s1 s24 l k most =
      add_up (weighed w (front_parts c key)) _ _ _ _ _ _ _ _ _ _ a b s5 e s10 s40 s1 s24 l k front-weights
      most.number most.name most.f005 most.fixed most.f010 most.f040 most.f1xx most.f240 most.f245 most.key_part

  -- and at least what one of them weighs
  pub front-number : weighed w (number_field c.contributors) ≤ weighed w (front_parts c key)
  front-number = at_least _ _ _ front-weights
    where
      at_least : (all a rest : ℕ) → all ≡ a + rest → a ≤ all
      at_least all a rest sum = omega arith

  pub front-fixed : weighed w (control_field (codes "008") c.fixed.text) ≤ weighed w (front_parts c key)
  front-fixed = at_least _ _ _ _ _ _ _ front-weights
    where
      at_least : (all a b s e rest k : ℕ) → all ≡ a + (b + ((s + (e + rest)) + k)) → e ≤ all
      at_least all a b s e rest k sum = omega arith

  pub front-title : weighed w (c.f245.field ∷ []) ≤ weighed w (front_parts c key)
  front-title = at_least _ _ _ _ _ _ _ _ _ _ _ front-weights
    where
      at_least : (all a b s5 e s10 s40 s1 s24 l k : ℕ) → all ≡ a + (b + ((s5 + (e + (s10 + (s40 + (s1 + (s24 + l)))))) + k)) → l ≤ all
      at_least all a b s5 e s10 s40 s1 s24 l k sum = omega arith

-- a prefix that has room fits whole
fitting_in-whole : (room : ℕ) (front more : List Field) → weighed taken_by front ≤ room
    → fitting_in room (front ++ more) ≡ front ++ fitting_in (room - weighed taken_by front) more
fitting_in-whole room [] more few = ap (λ n. fitting_in n more) (whole room)
  where
    whole : (n : ℕ) → n ≡ n - 0
    whole n = omega arith
fitting_in-whole room (f ∷ front) more few =
    let here : taken_by f ≤ room = first_of_sum (taken_by f) (weighed taken_by front) room few in
    let later : weighed taken_by front ≤ room - taken_by f = rest_of_sum (taken_by f) (weighed taken_by front) room few in
    fitting_in-first room f (front ++ more) here
    ∙ (ap (λ fields. f ∷ fields) (fitting_in-whole (room - taken_by f) front more later)
    ∙ ap (λ n. f ∷ (front ++ fitting_in n more)) (left_over room (taken_by f) (weighed taken_by front)))
  where
    first_of_sum : (a b n : ℕ) → a + b ≤ n → a ≤ n
    first_of_sum a b n h = omega arith

    rest_of_sum : (a b n : ℕ) → a + b ≤ n → b ≤ n - a
    rest_of_sum a b n h = omega arith

    left_over : (n a b : ℕ) → n - a - b ≡ n - (a + b)
    left_over n a b = omega arith

-- what is left of the others
abbrev pub shown_others : Content → List ℕ → List Field
shown_others c key = fitting_in (99973 - weighed taken_by (front_parts c key)) (other_parts c)

pub fitting-split : (c : Content) (key : List ℕ) → weighed taken_by (front_parts c key) ≤ 99973
    → fitting (parts c key) ≡ front_parts c key ++ shown_others c key
fitting-split c key few = ap (fitting_in 99973) (parts-split c key) ∙ fitting_in-whole 99973 (front_parts c key) (other_parts c) few

-- a test of each
all-append : (q : Field → Bool) (xs ys : List Field) → list_all q xs ≡ true → list_all q ys ≡ true → list_all q (xs ++ ys) ≡ true
all-append q xs ys one other = list_all-append q xs ys ∙ and_from (list_all q xs) (list_all q ys) one other

contributors-all : (q : Field → Bool) (ids : List RecordId) → list_all is_id ids ≡ true
    → ((id : RecordId) → is_id id ≡ true → list_all q (contributor_field id) ≡ true) → list_all q (flat_map contributor_field ids) ≡ true
contributors-all q [] are each = refl
contributors-all q (id ∷ ids) are each =
    let both = and_parts (is_id id) (list_all is_id ids) are in
    all-append q (contributor_field id) (flat_map contributor_field ids) (each id both.0) (contributors-all q ids both.1 each)

united-all : (q : Field → Bool) (fields : List Field) → list_all is_storable fields ≡ true → list_all is_united fields ≡ true
    → ((f : Field) → is_storable f ≡ true → is_united f ≡ true → q f ≡ true) → list_all q fields ≡ true
united-all q [] storable united each = refl
united-all q (f ∷ fields) storable united each =
    let one = and_parts (is_storable f) (list_all is_storable fields) storable in
    let other = and_parts (is_united f) (list_all is_united fields) united in
    and_from (q f) (list_all q fields) (each f one.0 other.0) (united-all q fields one.1 other.1 each)

pub record PassOthers (q : Field → Bool) : Type 0 where
  pub contributor : (id : RecordId) → is_id id ≡ true → list_all q (contributor_field id) ≡ true
  pub united : (f : Field) → is_storable f ≡ true → is_united f ≡ true → q f ≡ true

pub record PassAll (q : Field → Bool) (c : Content) (key : List ℕ) : Type 0 where
  pub number : list_all q (number_field c.contributors) ≡ true
  pub name : list_all q (control_field (codes "003") (codes "UNION")) ≡ true
  pub fixed : list_all q (control_field (codes "008") c.fixed.text) ≡ true
  pub slot : (f : Field) → has_slot f ≡ true → is_storable f ≡ true → q f ≡ true
  pub key_part : list_all q (key_field key) ≡ true
  pub others : PassOthers q

slot-all : (q : Field → Bool) (fits : Field → Bool) → ((f : Field) → fits f ≡ true → is_storable f ≡ true → q f ≡ true)
    → (slot : Option Slot) → is_slot_or_none fits slot ≡ true → list_all q (slot_field slot) ≡ true
slot-all q fits each None is = refl
slot-all q fits each (Some s) is =
    let both = and_parts (fits s.field) (is_storable s.field) is in
    and_from (q s.field) true (each s.field both.0 both.1) refl

-- a test of tags that one tag passes and another doesn't
pub other_tag : (test : List ℕ → Bool) (f : Field) (tag : List ℕ) → test f.tag ≡ true → test tag ≡ false → is_same f.tag tag ≡ false
other_tag test f tag held differs = of (is_same f.tag tag) refl
  where
    of : (b : Bool) → is_same f.tag tag ≡ b → b ≡ false
    of true is =
        let same : f.tag ≡ tag = (bytes_eq-Decides f.tag tag).0 is in
        let clash : true ≡ false = sym held ∙ (ap test same ∙ differs) in cc
    of false is = refl

-- a united field has no class
pub united-class : (f : Field) → is_united f ≡ true → class_number f.tag ≡ 0
united-class f united =
    let both = or_parts (has_slot f) (is_made_anew f) (not-true (has_slot f || is_made_anew f) united) in
    let slots = or_parts (has_tag (codes "005") f || (has_tag (codes "010") f || has_tag (codes "040") f)) (is_main_entry f || (has_tag (codes "240") f || has_tag (codes "245") f)) both.0 in
    let f005 = or_parts (has_tag (codes "005") f) (has_tag (codes "010") f || has_tag (codes "040") f) slots.0 in
    let f010 = or_parts (has_tag (codes "010") f) (has_tag (codes "040") f) f005.1 in
    let late = or_parts (is_main_entry f) (has_tag (codes "240") f || has_tag (codes "245") f) slots.1 in
    let f240 = or_parts (has_tag (codes "240") f) (has_tag (codes "245") f) late.1 in
    let main = or_parts (has_tag (codes "100") f || has_tag (codes "110") f) (has_tag (codes "111") f || has_tag (codes "130") f) late.0 in
    let low = or_parts (has_tag (codes "100") f) (has_tag (codes "110") f) main.0 in
    let high = or_parts (has_tag (codes "111") f) (has_tag (codes "130") f) main.1 in
    let anew = or_parts (has_tag (codes "001") f || has_tag (codes "003") f) (has_tag (codes "008") f || (has_tag (codes "991") f || has_tag (codes "993") f)) both.1 in
    let f003 = or_parts (has_tag (codes "001") f) (has_tag (codes "003") f) anew.0 in
    unclassed (has_tag (codes "003") f) (has_tag (codes "005") f) (has_tag (codes "010") f) (has_tag (codes "040") f) (has_tag (codes "240") f)
    (has_tag (codes "100") f) (has_tag (codes "110") f) (has_tag (codes "111") f) (has_tag (codes "130") f)
    f003.1 f005.0 f010.0 f010.1 f240.0 low.0 low.1 high.0 high.1
  where
    unclassed : (a b c d e g h i j : Bool) → a ≡ false → b ≡ false → c ≡ false → d ≡ false → e ≡ false → g ≡ false → h ≡ false → i ≡ false → j ≡ false
        → ◌≡◌ {A = ℕ} (if a then 1 else (if b then 2 else (if c then 3 else (if d then 4 else (if e then 5 else (if ((g || h) || i) || j then 6 else 0)))))) 0
    unclassed a b c d e g h i j pa pb pc pd pe pg ph pi pj = rw (pa, pb, pc, pd, pe, pg, ph, pi, pj) refl

-- a test of six, in their groups
module _ (a b c m d e : Bool) where
  first_slot : a ≡ true → ((a || (b || c)) || (m || (d || e))) ≡ true
  first_slot h = or_left (a || (b || c)) (m || (d || e)) (or_left a (b || c) h)

  second_slot : b ≡ true → ((a || (b || c)) || (m || (d || e))) ≡ true
  second_slot h = or_left (a || (b || c)) (m || (d || e)) (or_right a (b || c) (or_left b c h))

  third_slot : c ≡ true → ((a || (b || c)) || (m || (d || e))) ≡ true
  third_slot h = or_left (a || (b || c)) (m || (d || e)) (or_right a (b || c) (or_right b c h))

  fourth_slot : m ≡ true → ((a || (b || c)) || (m || (d || e))) ≡ true
  fourth_slot h = or_right (a || (b || c)) (m || (d || e)) (or_left m (d || e) h)

  fifth_slot : d ≡ true → ((a || (b || c)) || (m || (d || e))) ≡ true
  fifth_slot h = or_right (a || (b || c)) (m || (d || e)) (or_right m (d || e) (or_left d e h))

  sixth_slot : e ≡ true → ((a || (b || c)) || (m || (d || e))) ≡ true
  sixth_slot h = or_right (a || (b || c)) (m || (d || e)) (or_right m (d || e) (or_right d e h))

module _ (c : Content) (sound : is_sound c ≡ true) (key : List ℕ) (q : Field → Bool) where
  other_parts-all : PassOthers q → list_all q (other_parts c) ≡ true
  other_parts-all pass =
      all-append q (flat_map contributor_field c.contributors) c.united
      (contributors-all q c.contributors (sound-ids c sound) pass.contributor)
      (united-all q c.united (sound-united c sound).0 (sound-united c sound).1 pass.united)

  -- what the others pass those of them pass that are shown
  pub shown_others-all : PassOthers q → list_all q (shown_others c key) ≡ true
  shown_others-all pass = fitting_in-all q (99973 - weighed taken_by (front_parts c key)) (other_parts c) (other_parts-all pass)

  module _ (pass : PassAll q c key) where
    module _ (f : Field) where
      by_005 : has_tag (codes "005") f ≡ true → is_storable f ≡ true → q f ≡ true
      by_005 h = pass.slot f (first_slot (has_tag (codes "005") f) (has_tag (codes "010") f) (has_tag (codes "040") f) (is_main_entry f) (has_tag (codes "240") f) (has_tag (codes "245") f) h)

      by_010 : has_tag (codes "010") f ≡ true → is_storable f ≡ true → q f ≡ true
      by_010 h = pass.slot f (second_slot (has_tag (codes "005") f) (has_tag (codes "010") f) (has_tag (codes "040") f) (is_main_entry f) (has_tag (codes "240") f) (has_tag (codes "245") f) h)

      by_040 : has_tag (codes "040") f ≡ true → is_storable f ≡ true → q f ≡ true
      by_040 h = pass.slot f (third_slot (has_tag (codes "005") f) (has_tag (codes "010") f) (has_tag (codes "040") f) (is_main_entry f) (has_tag (codes "240") f) (has_tag (codes "245") f) h)

      by_1xx : is_main_entry f ≡ true → is_storable f ≡ true → q f ≡ true
      by_1xx h = pass.slot f (fourth_slot (has_tag (codes "005") f) (has_tag (codes "010") f) (has_tag (codes "040") f) (is_main_entry f) (has_tag (codes "240") f) (has_tag (codes "245") f) h)

      by_240 : has_tag (codes "240") f ≡ true → is_storable f ≡ true → q f ≡ true
      by_240 h = pass.slot f (fifth_slot (has_tag (codes "005") f) (has_tag (codes "010") f) (has_tag (codes "040") f) (is_main_entry f) (has_tag (codes "240") f) (has_tag (codes "245") f) h)

      by_245 : has_tag (codes "245") f ≡ true → is_storable f ≡ true → q f ≡ true
      by_245 h = pass.slot f (sixth_slot (has_tag (codes "005") f) (has_tag (codes "010") f) (has_tag (codes "040") f) (is_main_entry f) (has_tag (codes "240") f) (has_tag (codes "245") f) h)

    slots-all : list_all q (slot_fields c) ≡ true
    slots-all =
        let slots = sound-slots c sound in
        all-append q (slot_field c.f005) _ (slot-all q (has_tag (codes "005")) by_005 c.f005 slots.0.0.0)
        (all-append q (control_field (codes "008") c.fixed.text) _ pass.fixed
        (all-append q (slot_field c.f010) _ (slot-all q (has_tag (codes "010")) by_010 c.f010 slots.0.0.1)
        (all-append q (slot_field c.f040) _ (slot-all q (has_tag (codes "040")) by_040 c.f040 slots.0.1.0)
        (all-append q (slot_field c.f1xx) _ (slot-all q is_main_entry by_1xx c.f1xx slots.0.1.1)
        (all-append q (slot_field c.f240) _ (slot-all q (has_tag (codes "240")) by_240 c.f240 slots.1.0)
        (slot-all q (has_tag (codes "245")) by_245 (Some c.f245) slots.1.1))))))

    front-all : list_all q (front_parts c key) ≡ true
    front-all =
        all-append q (number_field c.contributors) _ pass.number
        (all-append q (control_field (codes "003") (codes "UNION")) _ pass.name
        (all-append q (slot_fields c) (key_field key) slots-all pass.key_part))

    -- what each part passes each field of the exported record passes
    pub exported-all : list_all q (in_tag_order (fitting (parts c key))) ≡ true
    exported-all =
        let whole : list_all q (parts c key) ≡ true
        = ap (list_all q) (parts-split c key) ∙ all-append q (front_parts c key) (other_parts c) front-all (other_parts-all pass.others) in
        in_tag_order-all q (fitting (parts c key)) ∙ fitting_in-all q 99973 (parts c key) whole
