-- What is read in bytes that spell a content.
use Rattle.std.proofs.Common.{◌≡◌, ℕ, ◌≤◌, Bool, true, false, not, List, [], ◌∷◌, ◌++◌, length, refl, ap, ◌∙◌, arith}
use Rattle.std.proofs.lemmas.Bool.Decides.{nat_tests}
use Rattle.std.specs.List.{list_all, flat_map}
use Rattle.std.specs.Prelude.{◌==◌}
use Rattle.union_base.specs.Bodies.{Subfield, Control, Data}
use Rattle.union_base.specs.Both.{both_true, true_both}
use Rattle.union_base.specs.Fields.{delimiter, is_text_byte, is_text, is_subfield_code, is_subfield, spelled_subfield, spelled}
use Rattle.union_base.specs.Readings.{is_undelimited, is_end, text_in, subfields_in, body_in}

is_not : (b : Bool) → not b ≡ true → b ≡ false
is_not true h = cc
is_not false h = refl

pub code_undelimited : (code : ℕ) → is_subfield_code code ≡ true → (code == delimiter) ≡ false
code_undelimited code fits = grind (arith, nat_tests)

text_byte_undelimited : (b : ℕ) → is_text_byte b ≡ true → (b == delimiter) ≡ false
text_byte_undelimited b is = grind (arith, nat_tests)

pub is_text-undelimited : (text : List ℕ) → is_text text ≡ true → is_undelimited text ≡ true
is_text-undelimited [] is = refl
is_text-undelimited (b ∷ text) is =
    let parts = both_true (is_text_byte b) (is_text text) is in
    true_both (not (b == delimiter)) (is_undelimited text) (ap not (text_byte_undelimited b parts.0)) (is_text-undelimited text parts.1)

-- a text ends where the next subfield begins
pub text_in-append : (text rest : List ℕ) → is_undelimited text ≡ true → is_end rest ≡ true → text_in (text ++ rest) ≡ text
text_in-append [] [] none end = refl
text_in-append [] (b ∷ rest) none end = rw end refl
text_in-append (b ∷ text) rest none end =
    let parts = both_true (not (b == delimiter)) (is_undelimited text) none in
    rw (is_not (b == delimiter) parts.0) (ap (λ t. b ∷ t) (text_in-append text rest parts.1 end))

-- and it has no subfield
pub subfields_in-append : (text rest : List ℕ) → is_undelimited text ≡ true → subfields_in (text ++ rest) ≡ subfields_in rest
subfields_in-append [] rest none = refl
subfields_in-append (b ∷ text) rest none =
    let parts = both_true (not (b == delimiter)) (is_undelimited text) none in
    rw (is_not (b == delimiter) parts.0) (subfields_in-append text rest parts.1)

pub is_end-subfields : (subfields : List Subfield) → is_end (flat_map spelled_subfield subfields) ≡ true
is_end-subfields [] = refl
is_end-subfields (s ∷ subfields) = refl

-- the first subfield, and those after it
pub subfields_in-first : (code : ℕ) (text rest : List ℕ) → (code == delimiter) ≡ false → is_undelimited text ≡ true → is_end rest ≡ true
    → subfields_in (delimiter ∷ code ∷ (text ++ rest)) ≡ record { code = code; text = text } ∷ subfields_in rest
subfields_in-first code text rest other none end =
    rw (other, text_in-append text rest none end, subfields_in-append text rest none) refl

-- subfields are read back
pub subfields_in-spelled : (subfields : List Subfield) → list_all is_subfield subfields ≡ true → subfields_in (flat_map spelled_subfield subfields) ≡ subfields
subfields_in-spelled [] formed = refl
subfields_in-spelled (s ∷ subfields) formed =
    let parts = both_true (is_subfield s) (list_all is_subfield subfields) formed in
    let one = both_true (is_subfield_code s.code) (is_text s.text) parts.0 in
    subfields_in-first s.code s.text (flat_map spelled_subfield subfields) (code_undelimited s.code one.0) (is_text-undelimited s.text one.1) (is_end-subfields subfields)
    ∙ ap (λ rest. s ∷ rest) (subfields_in-spelled subfields parts.1)

-- so is a data field's content
pub body_in-data : (ind1 ind2 : ℕ) (subfields : List Subfield) → 1 ≤ length subfields → list_all is_subfield subfields ≡ true
    → body_in (spelled (Data ind1 ind2 subfields)) ≡ Data ind1 ind2 subfields
body_in-data ind1 ind2 [] some formed = absurd (omega arith)
body_in-data ind1 ind2 (s ∷ subfields) some formed = ap (Data ind1 ind2) (subfields_in-spelled (s ∷ subfields) formed)

-- and a control field's
pub body_in-control : (text : List ℕ) → is_text text ≡ true → body_in text ≡ Control text
body_in-control [] is = refl
body_in-control (a ∷ []) is = refl
body_in-control (a ∷ b ∷ []) is = refl
body_in-control (a ∷ b ∷ c ∷ text) is =
    let first = both_true (is_text_byte a) (is_text (b ∷ c ∷ text)) is in
    let second = both_true (is_text_byte b) (is_text (c ∷ text)) first.1 in
    let third = both_true (is_text_byte c) (is_text text) second.1 in
    rw (text_byte_undelimited c third.0) refl
