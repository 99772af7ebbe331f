-- A field's tag and its bytes determine it.
use Rattle.std.proofs.Common.{◌≡◌, ℕ, Bool, true, false, not, IsTrue, List, [], ◌∷◌, ◌++◌, refl, sym, ap, ◌∙◌}
use mathlib.Core.HLevel.{Σ_prop_path}
use Rattle.std.proofs.Math.Bool.{Bool-set}
use Rattle.std.specs.Ordering.{nat_cmp}
use Rattle.std.specs.Cmp.Lexicographic.{slice_cmp}
use Rattle.std.specs.FinMap.{IsAntisymmetric}
use Rattle.std.specs.List.{list_all, flat_map}
use Rattle.union_base.specs.Fields.{delimiter, is_text_byte, is_text, is_subfield, is_control_tag, fits_tag, is_tag, is_field, spelled_subfield, spelled}
use Rattle.union_base.specs.FieldOrder.{field_cmp}
use Rattle.union_base.specs.Bodies.{Subfield, Body, Control, Data}
use Rattle.union_base.specs.declared.field.Field.{Field}
use Rattle.union_base.specs.Both.{both_true}
use Rattle.union_base.specs.Ties.{then_ties, texts_apart}

-- the bytes of subfields begin with a delimiter, or are none
abbrev after : List Subfield → List ℕ
after subfields = flat_map spelled_subfield subfields

-- a text ends where the next delimiter stands
text_ends : (a b : List ℕ) (xs ys : List Subfield) → is_text a ≡ true → is_text b ≡ true → a ++ after xs ≡ b ++ after ys → (a ≡ b) × (after xs ≡ after ys)
text_ends [] [] xs ys p q e = (refl, e)
text_ends [] (b ∷ bs) [] ys p q e = cc
text_ends [] (b ∷ bs) (x ∷ xs) ys p q e =
    let first : delimiter ≡ b = cc in
    let clash : false ≡ true = ap is_text_byte first ∙ (both_true (is_text_byte b) (is_text bs) q).0 in
    cc
text_ends (a ∷ as') [] xs [] p q e = cc
text_ends (a ∷ as') [] xs (y ∷ ys) p q e =
    let first : a ≡ delimiter = cc in
    let clash : false ≡ true = sym (ap is_text_byte first) ∙ (both_true (is_text_byte a) (is_text as') p).0 in
    cc
text_ends (a ∷ as') (b ∷ bs) xs ys p q e =
    let first : a ≡ b = cc in
    let more : as' ++ after xs ≡ bs ++ after ys = cc in
    let rest = text_ends as' bs xs ys (both_true (is_text_byte a) (is_text as') p).1 (both_true (is_text_byte b) (is_text bs) q).1 more in
    (λ i. first i ∷ rest.0 i, rest.1)

is_not : (b : Bool) → not b ≡ true → b ≡ false
is_not true h = cc
is_not false h = refl

-- subfields are determined by their bytes
same_subfields : (xs ys : List Subfield) → list_all is_subfield xs ≡ true → list_all is_subfield ys ≡ true → after xs ≡ after ys → xs ≡ ys
same_subfields [] [] p q e = refl
same_subfields [] (y ∷ ys) p q e = cc
same_subfields (x ∷ xs) [] p q e = cc
same_subfields (x ∷ xs) (y ∷ ys) p q e =
    let left = both_true (is_subfield x) (list_all is_subfield xs) p in
    let right = both_true (is_subfield y) (list_all is_subfield ys) q in
    let codes : x.code ≡ y.code = cc in
    let behind : x.text ++ after xs ≡ y.text ++ after ys = cc in
    let parts = text_ends x.text y.text xs ys (both_true _ (is_text x.text) left.0).1 (both_true _ (is_text y.text) right.0).1 behind in
    let rest = same_subfields xs ys left.1 right.1 parts.1 in
    λ i. record { code = codes i; text = parts.0 i } ∷ rest i

-- two bodies under one tag with the same bytes are one
same_bodies : (tag : List ℕ) (a b : Body) → fits_tag tag a ≡ true → fits_tag tag b ≡ true → spelled a ≡ spelled b → a ≡ b
same_bodies tag (Control s) (Control t) p q e = λ i. Control (e i)
same_bodies tag (Control s) (Data i j ys) p q e =
    let clash : true ≡ false = sym (both_true (is_control_tag tag) _ p).0 ∙ is_not (is_control_tag tag) (both_true (not (is_control_tag tag)) _ q).0 in
    cc
same_bodies tag (Data i j xs) (Control t) p q e =
    let clash : true ≡ false = sym (both_true (is_control_tag tag) _ q).0 ∙ is_not (is_control_tag tag) (both_true (not (is_control_tag tag)) _ p).0 in
    cc
same_bodies tag (Data i j xs) (Data k l ys) p q e =
    let first : i ≡ k = cc in
    let second : j ≡ l = cc in
    let behind : after xs ≡ after ys = cc in
    let left = (both_true _ _ (both_true _ _ (both_true (not (is_control_tag tag)) _ p).1).1).1 in
    let right = (both_true _ _ (both_true _ _ (both_true (not (is_control_tag tag)) _ q).1).1).1 in
    let rest = same_subfields xs ys left right behind in
    λ n. Data (first n) (second n) (rest n)

-- two fields with one tag and the same bytes are one
pub same_fields : (a b : Field) → a.tag ≡ b.tag → spelled a.body ≡ spelled b.body → a ≡ b
same_fields a b p e =
    let left : fits_tag b.tag a.body ≡ true = ap (λ tag. fits_tag tag a.body) (sym p) ∙ (both_true (is_tag a.tag) (fits_tag a.tag a.body) a.well_formed).1 in
    let q : a.body ≡ b.body = same_bodies b.tag a.body b.body left (both_true (is_tag b.tag) (fits_tag b.tag b.body) b.well_formed).1 e in
    let pairs : ◌≡◌ {A = (d : List ℕ × Body) × IsTrue (is_field d.0 d.1)} ((a.tag, a.body), a.well_formed) ((b.tag, b.body), b.well_formed) =
    Σ_prop_path (λ d. Bool-set (is_field d.0 d.1) true) (λ i. (p i, q i)) in
    λ i. record { tag = (pairs i).0.0; body = (pairs i).0.1; well_formed = (pairs i).1 }

-- fields that compare equal are one
pub field_cmp-IsAntisymmetric : IsAntisymmetric field_cmp
field_cmp-IsAntisymmetric a b e =
    let parts = then_ties (slice_cmp nat_cmp a.tag b.tag) (slice_cmp nat_cmp (spelled a.body) (spelled b.body)) e in
    same_fields a b (texts_apart a.tag b.tag parts.0) (texts_apart (spelled a.body) (spelled b.body) parts.1)
