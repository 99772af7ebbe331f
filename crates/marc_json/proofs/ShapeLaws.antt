-- Which values have the form of a part of a record, and which have not.
use Rattle.std.proofs.Common.{◌≡◌, ℕ, zero, suc, ◌+◌, ◌<◌, ◌==◌, Bool, true, false, if◌then◌else◌, List, [], ◌∷◌, ◌++◌, map, codes, length, take, drop, get_or, Some, None, IsUtf8, refl, sym, ap, ◌∙◌, arith}
use Rattle.std.proofs.lemmas.Bool.Decides.{nat_tests}
use Rattle.std.proofs.lemmas.List.{length-map, length-take}
use Rattle.std.proofs.lemmas.Str.{IsUtf8-from_is_utf8, is_utf8-from_IsUtf8}
use Rattle.std.specs.List.{list_all}
use Rattle.std.specs.Str.{is_utf8}
use Rattle.serde_json.specs.Data.{Data as Json, null, boolean, number, string, array, object, Items, no_items, Members, member, no_members}
use Rattle.serde_json.specs.Find.{as_array, as_object}
use Rattle.serde_json.specs.Read.{read}
use Rattle.serde_json.specs.View.{view, items_of}
use Rattle.serde_json.specs.declared.value.Value.{Value}
use Rattle.union_base.specs.Bodies.{Subfield, Body, Control, Data}
use Rattle.union_base.specs.Both.{both_true, true_both}
use Rattle.union_base.specs.Fields.{is_indicator, is_subfield, is_control_tag, is_text, fits_tag}
use Rattle.union_base.specs.declared.field.Field.{Field}
use Rattle.marc_json.specs.Values.{list_value, subfield_value, data_object, body_value, field_value}
use Rattle.marc_json.specs.Shapes.{value_in, IsFirstWrong, are_subfields}
use Rattle.marc_json.proofs.BackLaws.{items_of-same}

-- ---- lists

is_array : (value : Json) (items : Items) → Some items ≡ as_array value → array items ≡ value
is_array null items e = cc
is_array (boolean b) items e = cc
is_array (number n) items e = cc
is_array (string s) items e = cc
is_array (array other) items e = let same : items ≡ other = cc in ap array same
is_array (object ms) items e = cc

-- a list is what stands before an item, the item, and what stands after it
split_map : (xs : List Value) (k : ℕ) (d : Value) → k < length xs → map view xs ≡ map view (take k xs) ++ view (get_or xs k d) ∷ map view (drop (suc k) xs)
split_map [] k d h = absurd (omega arith)
split_map (x ∷ xs) zero d h = refl
split_map (x ∷ xs) (suc k) d h = ap (λ l. view x ∷ l) (split_map xs k d (omega arith))

-- an empty list is none of subfields
no_subfields : (xs : List Subfield) (value : Json) → Some no_items ≡ as_array value → are_subfields xs ≡ true → list_value (map subfield_value xs) ≡ value → ⊥
no_subfields [] value none h e = cc
no_subfields (x ∷ xs) value none h e = let some : Some no_items ≡ Some (items_of (map subfield_value (x ∷ xs))) = none ∙ ap as_array (sym e) in cc

pub no_list_items : (items : List Value) (value : Json) → true ≡ (length items == 0) → Some (items_of (map view items)) ≡ as_array value
    → (xs : List Subfield) → are_subfields xs ≡ true → list_value (map subfield_value xs) ≡ value → ⊥
no_list_items [] value h list xs = no_subfields xs value list
no_list_items (item ∷ items) value h list xs = absurd (grind (arith, nat_tests))

no_such : (xs : List Subfield) (front : List Json) (value : Json) (behind : List Json) → map subfield_value xs ≡ front ++ value ∷ behind → list_all is_subfield xs ≡ true
    → ((s : Subfield) → is_subfield s ≡ true → subfield_value s ≡ value → ⊥) → ⊥
no_such [] [] value behind e h none = cc
no_such [] (f ∷ front) value behind e h none = cc
no_such (x ∷ xs) [] value behind e h none =
    let here : subfield_value x ≡ value = cc in
    none x (both_true (is_subfield x) (list_all is_subfield xs) h).0 here
no_such (x ∷ xs) (f ∷ front) value behind e h none =
    let rest : map subfield_value xs ≡ front ++ value ∷ behind = cc in
    no_such xs front value behind rest (both_true (is_subfield x) (list_all is_subfield xs) h).1 none

-- a list with an item that is no subfield's value is none of subfields
pub no_list : (items : List Value) (k : ℕ) (item : Value) (value : Json) → k < length items → item ≡ get_or items k item → Some (items_of (map view items)) ≡ as_array value
    → ((s : Subfield) → is_subfield s ≡ true → subfield_value s ≡ view item → ⊥)
    → (xs : List Subfield) → are_subfields xs ≡ true → list_value (map subfield_value xs) ≡ value → ⊥
no_list items k item value h is list none xs formed e =
    let lists : Some (items_of (map subfield_value xs)) ≡ Some (items_of (map view items)) = ap as_array e ∙ sym list in
    let inside : items_of (map subfield_value xs) ≡ items_of (map view items) = cc in
    let parts = items_of-same (map subfield_value xs) (map view items) inside ∙ split_map items k item h
    ∙ ap (λ x. map view (take k items) ++ view x ∷ map view (drop (suc k) items)) (sym is) in
    no_such xs (map view (take k items)) (view item) (map view (drop (suc k) items)) parts (both_true _ (list_all is_subfield xs) formed).1 none

-- subfields whose values are the items
pub all_found : (xs : List Subfield) (items : List Value) (value : Json) → 0 < length items → Some (items_of (map view items)) ≡ as_array value → list_all is_subfield xs ≡ true
    → map subfield_value xs ≡ map view items → (are_subfields xs ≡ true) × (list_value (map subfield_value xs) ≡ value)
all_found [] [] value some list h e = absurd (omega arith)
all_found [] (item ∷ items) value some list h e = cc
all_found (x ∷ xs) items value some list h e = (true_both _ _ (grind (arith, nat_tests)) h, ap list_value e ∙ is_array value (items_of (map view items)) list)

-- the item is the first that is no field's value
pub first_wrong : (fields : List Field) (items : List Value) (k : ℕ) (item : Value) → k < length items → item ≡ get_or items k item
    → map field_value fields ≡ map view (take k items) → ((f : Field) → field_value f ≡ view item → ⊥) → IsFirstWrong (items_of (map view items)) (k + 1)
first_wrong fields items k item h is same none = record {
  before = fields;
  wrong = view item;
  behind = map view (drop (suc k) items);
  parts =
      ap items_of
      (split_map items k item h ∙ ap (λ x. map view (take k items) ++ view x ∷ map view (drop (suc k) items)) (sym is)
      ∙ ap (λ l. l ++ view item ∷ map view (drop (suc k) items)) (sym same));
  no_field = none;
  place = omega (arith, length-map fields field_value, length-map (take k items) view, length-take k items, ap length same);
}

-- ---- data fields

-- the members of an object after its two indicators
pub third_member : (value ind1 ind2 subfields one other : Json) (all behind rest : Members) → Some all ≡ as_object value → all ≡ member (codes "ind1") one behind
    → behind ≡ member (codes "ind2") other rest → data_object ind1 ind2 subfields ≡ value → rest ≡ member (codes "subfields") subfields no_members
third_member value ind1 ind2 subfields one other all behind rest inside first second e =
    let whole : Some all ≡ Some (member (codes "ind1") ind1 (member (codes "ind2") ind2 (member (codes "subfields") subfields no_members))) = inside ∙ ap as_object (sym e) in
    cc

-- a value that is no data field's object is no content of a data field
pub no_data : (tag : List ℕ) (value : Json) → is_control_tag tag ≡ false → ((ind1 ind2 subfields : Json) → data_object ind1 ind2 subfields ≡ value → ⊥)
    → (b : Body) → fits_tag tag b ≡ true → body_value b ≡ value → ⊥
no_data tag value h none (Control text) fits e = let clash : true ≡ false = sym (both_true (is_control_tag tag) (is_text text) fits).0 ∙ h in cc
no_data tag value h none (Data i j ss) fits e = none (string (i ∷ [])) (string (j ∷ [])) (list_value (map subfield_value ss)) e

-- nor is an object with a wrong part
pub bad_data : (tag : List ℕ) (value one other list : Json) → is_control_tag tag ≡ false → data_object one other list ≡ value
    → ((i j : ℕ) (ss : List Subfield) → is_indicator i ≡ true → is_indicator j ≡ true → are_subfields ss ≡ true
    → string (i ∷ []) ≡ one → string (j ∷ []) ≡ other → list_value (map subfield_value ss) ≡ list → ⊥)
    → (b : Body) → fits_tag tag b ≡ true → body_value b ≡ value → ⊥
bad_data tag value one other list h is none (Control text) fits e = let clash : true ≡ false = sym (both_true (is_control_tag tag) (is_text text) fits).0 ∙ h in cc
bad_data tag value one other list h is none (Data i j ss) fits e =
    let parts = (both_true _ _ fits).1 in
    let indicators = both_true (is_indicator i) (is_indicator j) (both_true _ (are_subfields ss) parts).0 in
    let whole : data_object (string (i ∷ [])) (string (j ∷ [])) (list_value (map subfield_value ss)) ≡ data_object one other list = e ∙ sym is in
    let first : string (i ∷ []) ≡ one = cc in
    let second : string (j ∷ []) ≡ other = cc in
    let third : list_value (map subfield_value ss) ≡ list = cc in
    none i j ss indicators.0 indicators.1 (both_true _ (are_subfields ss) parts).1 first second third

-- an object with right parts is the content of a data field
pub good_data : (tag : List ℕ) (value one other list : Json) (i j : ℕ) (ss : List Subfield) → is_control_tag tag ≡ false → data_object one other list ≡ value
    → is_indicator i ≡ true → is_indicator j ≡ true → are_subfields ss ≡ true → string (i ∷ []) ≡ one → string (j ∷ []) ≡ other → list_value (map subfield_value ss) ≡ list
    → (b : Body) → b ≡ Data i j ss → (fits_tag tag b ≡ true) × (body_value b ≡ value)
good_data tag value one other list i j ss h is p q r e f g b same =
    rw (same, h) (true_both _ _ (true_both _ _ p q) r, (λ n. data_object (e n) (f n) (g n)) ∙ is)

-- ---- lines

-- the value of a line in UTF-8
pub value_in-utf8 : (line : List ℕ) → IsUtf8 line → value_in line ≡ read line
unfolding value_in
value_in-utf8 line utf8 = rw (is_utf8-from_IsUtf8 line utf8)

no_value_at : (b : Bool) (line : List ℕ) → is_utf8 line ≡ b → (IsUtf8 line → read line ≡ None) → (if b then read line else None) ≡ None
no_value_at true line h none = none (IsUtf8-from_is_utf8 line h)
no_value_at false line h none = refl

-- a line has no value where none is read of it
pub no_value : (line : List ℕ) → (IsUtf8 line → read line ≡ None) → value_in line ≡ None
unfolding value_in
no_value line none = no_value_at (is_utf8 line) line refl none
