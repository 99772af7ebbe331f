-- What the fields are that the catalogue writes itself.
use Rattle.std.proofs.Common.{◌≡◌, ℕ, zero, suc, ◌≤◌, length, take, Bool, true, false, not, ◌&&◌, List, [], ◌∷◌, ◌++◌, refl, sym, ◌∙◌}
use Rattle.std.proofs.Math.Bool.{Bool-set}
use Rattle.std.proofs.Common.{arith}
use Rattle.std.proofs.lemmas.Bool.Decides.{nat_tests}
use Rattle.union_base.specs.Fields.{is_tag, is_control_tag, is_indicator, is_subfield, fits_tag, is_field}
use Rattle.union_base.specs.Bodies.{Subfield, Body, Data}
use Rattle.union_base.specs.declared.field.Field.{Field}
use Rattle.std.specs.List.{list_all}
use Rattle.std.proofs.lemmas.List.Folds.{list_all-append}
use Rattle.union_base.specs.Both.{both_true, true_both}
use Rattle.union_base.specs.Fields.{is_text_byte, is_text}
use Rattle.union_base.specs.LibraryCodes.{may_stand, is_library_code}
use Rattle.union_base.specs.declared.record_id.RecordId.{RecordId}
use Rattle.marc_leader.specs.Codes.{is_printable}
use Rattle.workset_keys.specs.WorkKeys.{own_name}
use Rattle.catalogue_core.specs.Sound.{is_id}
use Rattle.catalogue_export.specs.Exported.{field_of, front_within, last_boundary}
use Rattle.catalogue_export.proofs.FittingLaws.{is_le}
use Rattle.std.specs.Prelude.{nat_le, if◌then◌else◌}

field_of-cases : (tag : List ℕ) (body : Body) (b : Bool) (found : is_field tag body ≡ b) (fits : is_field tag body ≡ true)
    → ◌≡◌ {A = List Field} (elim b as (λ answer. is_field tag body ≡ answer → List Field) [
      | true ↦ λ proof. record { tag = tag; body = body; well_formed = proof } ∷ []
      | false ↦ λ _. []
    ] found) (record { tag = tag; body = body; well_formed = fits } ∷ [])
field_of-cases tag body true found fits = λ i. record { tag = tag; body = body; well_formed = Bool-set (is_field tag body) true found fits i } ∷ []
field_of-cases tag body false found fits = let clash : true ≡ false = sym fits ∙ found in cc

-- a field is the field of its tag and its content
pub field_of-is : (f : Field) → field_of f.tag f.body ≡ f ∷ []
unfolding field_of
field_of-is f = field_of-cases f.tag f.body (is_field f.tag f.body) refl f.well_formed

-- a byte of a library code is a byte of a text
text-from_code : (b : ℕ) → may_stand b ≡ true → is_text_byte b ≡ true
text-from_code b h = grind (arith, nat_tests)

all_text-from_code : (text : List ℕ) → list_all may_stand text ≡ true → is_text text ≡ true
all_text-from_code [] h = refl
all_text-from_code (b ∷ bs) h =
    let parts = both_true (may_stand b) (list_all may_stand bs) h in
    true_both (is_text_byte b) (is_text bs) (text-from_code b parts.0) (all_text-from_code bs parts.1)

-- a library code is a text
pub is_text-library : (library : List ℕ) → is_library_code library ≡ true → is_text library ≡ true
is_text-library library h = all_text-from_code library (both_true _ (list_all may_stand library) h).1

-- a printing byte is a byte of a text
text-from_printing : (b : ℕ) → is_printable b ≡ true → is_text_byte b ≡ true
text-from_printing b h = grind (arith, nat_tests)

all_text-from_printing : (text : List ℕ) → list_all is_printable text ≡ true → is_text text ≡ true
all_text-from_printing [] h = refl
all_text-from_printing (b ∷ bs) h =
    let parts = both_true (is_printable b) (list_all is_printable bs) h in
    true_both (is_text_byte b) (is_text bs) (text-from_printing b parts.0) (all_text-from_printing bs parts.1)

-- a control number is a text
pub is_text-control : (id : RecordId) → is_id id ≡ true → is_text id.control ≡ true
is_text-control id h =
    all_text-from_printing id.control (both_true _ (list_all is_printable id.control) (both_true (is_library_code id.library) _ h).1).1

pub is_text-code : (id : RecordId) → is_id id ≡ true → is_text id.library ≡ true
is_text-code id h = is_text-library id.library (both_true (is_library_code id.library) _ h).0

-- `LIB.CTL` is a text
pub is_text-own_name : (id : RecordId) → is_id id ≡ true → is_text (own_name id) ≡ true
is_text-own_name id h =
    list_all-append is_text_byte (id.library ++ 0x2E ∷ []) id.control
    ∙ true_both (is_text (id.library ++ 0x2E ∷ [])) (is_text id.control)
    (list_all-append is_text_byte id.library (0x2E ∷ []) ∙ true_both (is_text id.library) true (is_text-code id h) refl) (is_text-control id h)

-- a prefix of a text is a text
pub is_text-take : (n : ℕ) (text : List ℕ) → is_text text ≡ true → is_text (take n text) ≡ true
is_text-take zero text h = refl
is_text-take (suc n) [] h = refl
is_text-take (suc n) (b ∷ bs) h =
    let parts = both_true (is_text_byte b) (is_text bs) h in
    true_both (is_text_byte b) (is_text (take n bs)) parts.0 (is_text-take n bs parts.1)

pub is_text-front : (most : ℕ) (text : List ℕ) → is_text text ≡ true → is_text (front_within most text) ≡ true
unfolding front_within
is_text-front most text h =
    elim (nat_le (length text) most) as (λ r. is_text (if r then text else take (last_boundary text most) text) ≡ true) [
      | true ↦ h
      | false ↦ is_text-take (last_boundary text most) text h
    ]

-- what stands after a data field's tag has a subfield, and each is one
pub are_subfields-data : (tag : List ℕ) (ind1 ind2 : ℕ) (subfields : List Subfield) → is_field tag (Data ind1 ind2 subfields) ≡ true
    → (1 ≤ length subfields) × (list_all is_subfield subfields ≡ true)
are_subfields-data tag ind1 ind2 subfields h =
    let fits = (both_true (is_tag tag) (fits_tag tag (Data ind1 ind2 subfields)) h).1 in
    let behind = (both_true (not (is_control_tag tag)) _ fits).1 in
    let parts = both_true (is_indicator ind1 && is_indicator ind2) _ behind in
    let formed = both_true (nat_le 1 (length subfields)) (list_all is_subfield subfields) parts.1 in
    (is_le 1 (length subfields) formed.0, formed.1)
