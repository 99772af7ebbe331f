-- A local field with the code of its library.
use Rattle.std.proofs.Common.{◌≡◌, ℕ, suc, ◌+◌, ◌≤◌, min, true, false, not, ◌&&◌, ◌||◌, List, [], ◌∷◌, ◌++◌, length, length-append, append-nil, refl, sym, ap, ◌∙◌, inl, inr, arith}
use Rattle.std.specs.Prelude.{◌==◌, nat_le, slice_index, codes}
use Rattle.std.specs.List.{list_all, flat_map}
use Rattle.std.specs.Char.{is_ascii_digit}
use Rattle.std.specs.Cmp.Lexicographic.{same_text}
use Rattle.std.proofs.lemmas.Bool.{or_cases}
use Rattle.std.proofs.lemmas.Bool.Decides.{nat_tests}
use Rattle.std.proofs.lemmas.List.Folds.{list_all-append}
use Rattle.std.proofs.lemmas.Grind.{flat_map-append}
use Rattle.std.proofs.lemmas.List.Concat.{flat_map-cons}
use Rattle.union_base.specs.Both.{both_true, true_both}
use Rattle.union_base.specs.Bodies.{Subfield, Body, Control, Data}
use Rattle.union_base.specs.Fields.{is_tag, is_control_tag, is_indicator, is_subfield, is_subfield_code, is_text, fits_tag, is_field, spelled_subfield, spelled}
use Rattle.union_base.specs.LibraryCodes.{is_library_code}
use Rattle.union_base.specs.Readings.{body_in}
use Rattle.union_base.proofs.ReadingLaws.{body_in-data}
use Rattle.union_base.specs.declared.field.Field.{Field}
use Rattle.marc_parts.specs.Parts.{has_tag}
use Rattle.catalogue_export.specs.Owners.{is_59X, is_9XX, is_local, owned_body}
use Rattle.catalogue_export.proofs.FieldLaws.{is_text-library}

-- ---- the tag

no-five : (n : ℕ) → (n == 0x35) ≡ true → (n == 0x30) ≡ false
no-five n h = grind (arith, nat_tests)

no-nine : (n : ℕ) → (n == 0x39) ≡ true → (n == 0x30) ≡ false
no-nine n h = grind (arith, nat_tests)

first-of : (f : Field) (tag : List ℕ) → has_tag tag f ≡ true → (slice_index tag 0 == 0x30) ≡ false → (slice_index f.tag 0 == 0x30) ≡ false
first-of f tag has other = ap (λ t. slice_index t 0 == 0x30) (same_text f.tag tag (sym has)) ∙ other

-- a local tag does not begin with a zero
local-first : (f : Field) → is_local f ≡ true → (slice_index f.tag 0 == 0x30) ≡ false
local-first f local =
    elim (or_cases (has_tag (codes "852") f || has_tag (codes "856") f) (is_59X f.tag || is_9XX f.tag) local) [
      | inl told ↦ elim (or_cases (has_tag (codes "852") f) (has_tag (codes "856") f) told) [
        | inl place ↦ first-of f (codes "852") place refl
        | inr link ↦ first-of f (codes "856") link refl
      ]
      | inr own ↦ elim (or_cases (is_59X f.tag) (is_9XX f.tag) own) [
        | inl note ↦ no-five (slice_index f.tag 0) (both_true (slice_index f.tag 0 == 0x35) ((slice_index f.tag 1 == 0x39) && is_ascii_digit (slice_index f.tag 2)) note).0
        | inr kept ↦ no-nine (slice_index f.tag 0) (both_true (slice_index f.tag 0 == 0x39) (is_ascii_digit (slice_index f.tag 1) && is_ascii_digit (slice_index f.tag 2)) kept).0
      ]
    ]

-- ---- the body

-- what holds of the body of a local field: it is no control field's
module _ (f : Field) (local : is_local f ≡ true) where
  no-control : (text : List ℕ) → is_field f.tag (Control text) ≡ true → ⊥
  no-control text fits =
      let tagged = (both_true (is_control_tag f.tag) (is_text text) (both_true (is_tag f.tag) (fits_tag f.tag (Control text)) fits).1).0 in
      let zero : (slice_index f.tag 0 == 0x30) ≡ true = (both_true (slice_index f.tag 0 == 0x30) (slice_index f.tag 1 == 0x30) tagged).0 in
      let clash : true ≡ false = sym zero ∙ local-first f local in
      cc

  module _ (library : List ℕ) where
    abbrev owner : Subfield
    owner = record { code = 0x35; text = library }

    -- the bytes of the body with the code
    spelled-by : (body : Body) → is_field f.tag body ≡ true → spelled (owned_body library body) ≡ spelled body ++ (0x1F ∷ 0x35 ∷ library)
    spelled-by (Control text) fits = absurd (no-control text fits)
    spelled-by (Data ind1 ind2 subfields) fits =
        ap (λ bytes. ind1 ∷ ind2 ∷ bytes)
        (flat_map-append spelled_subfield subfields (owner ∷ [])
        ∙ ap (λ bytes. flat_map spelled_subfield subfields ++ bytes) (flat_map-cons spelled_subfield owner [] ∙ append-nil (0x1F ∷ 0x35 ∷ library)))

    pub owned-spelled : spelled (owned_body library f.body) ≡ spelled f.body ++ (0x1F ∷ 0x35 ∷ library)
    owned-spelled = spelled-by f.body f.well_formed

    pub owned-size : length (spelled (owned_body library f.body)) ≡ length (spelled f.body) + (2 + length library)
    owned-size =
        let two : suc (suc (length library)) ≡ 2 + length library = omega arith in
        ap length owned-spelled ∙ (length-append (spelled f.body) (0x1F ∷ 0x35 ∷ library) ∙ ap (λ n. length (spelled f.body) + n) two)

  module _ (library : List ℕ) (code : is_library_code library ≡ true) where
    -- the body is a data field's, whose subfields are formed
    all-formed : (subfields : List Subfield) → list_all is_subfield subfields ≡ true → list_all is_subfield (subfields ++ owner library ∷ []) ≡ true
    all-formed subfields formed =
        list_all-append is_subfield subfields (owner library ∷ [])
        ∙ true_both (list_all is_subfield subfields) (is_subfield (owner library) && true) formed
        (true_both (is_subfield (owner library)) true (true_both (is_subfield_code 0x35) (is_text library) refl (is_text-library library code)) refl)

    some-subfields : (subfields : List Subfield) → nat_le 1 (length (subfields ++ owner library ∷ [])) ≡ true
    some-subfields subfields =
        let size = length-append subfields (owner library ∷ []) in
        let some : 1 ≤ length (subfields ++ owner library ∷ []) = omega (arith, size) in
        yes 1 (length (subfields ++ owner library ∷ [])) some
      where
        yes : (m n : ℕ) → m ≤ n → nat_le m n ≡ true
        yes m n h = grind (arith, nat_tests)

    field-by : (body : Body) → is_field f.tag body ≡ true → is_field f.tag (owned_body library body) ≡ true
    field-by (Control text) fits = fits
    field-by (Data ind1 ind2 subfields) fits =
        let tagged = both_true (is_tag f.tag) (fits_tag f.tag (Data ind1 ind2 subfields)) fits in
        let data_field = both_true (not (is_control_tag f.tag)) ((is_indicator ind1 && is_indicator ind2) && (nat_le 1 (length subfields) && list_all is_subfield subfields)) tagged.1 in
        let parts = both_true (is_indicator ind1 && is_indicator ind2) (nat_le 1 (length subfields) && list_all is_subfield subfields) data_field.1 in
        let formed = (both_true (nat_le 1 (length subfields)) (list_all is_subfield subfields) parts.1).1 in
        true_both (is_tag f.tag) (fits_tag f.tag (owned_body library (Data ind1 ind2 subfields))) tagged.0
        (true_both (not (is_control_tag f.tag)) ((is_indicator ind1 && is_indicator ind2) && (nat_le 1 (length (subfields ++ owner library ∷ [])) && list_all is_subfield (subfields ++ owner library ∷ []))) data_field.0
        (true_both (is_indicator ind1 && is_indicator ind2) (nat_le 1 (length (subfields ++ owner library ∷ [])) && list_all is_subfield (subfields ++ owner library ∷ [])) parts.0
        (true_both (nat_le 1 (length (subfields ++ owner library ∷ []))) (list_all is_subfield (subfields ++ owner library ∷ [])) (some-subfields subfields) (all-formed subfields formed))))

    pub owned-formed : is_field f.tag (owned_body library f.body) ≡ true
    owned-formed = field-by f.body f.well_formed

    read-by : (body : Body) → is_field f.tag body ≡ true → body_in (spelled (owned_body library body)) ≡ owned_body library body
    read-by (Control text) fits = absurd (no-control text fits)
    read-by (Data ind1 ind2 subfields) fits =
        let whole = field-by (Data ind1 ind2 subfields) fits in
        let data_field = both_true (not (is_control_tag f.tag)) ((is_indicator ind1 && is_indicator ind2) && (nat_le 1 (length (subfields ++ owner library ∷ [])) && list_all is_subfield (subfields ++ owner library ∷ []))) (both_true (is_tag f.tag) (fits_tag f.tag (owned_body library (Data ind1 ind2 subfields))) whole).1 in
        let formed = (both_true (nat_le 1 (length (subfields ++ owner library ∷ []))) (list_all is_subfield (subfields ++ owner library ∷ [])) (both_true (is_indicator ind1 && is_indicator ind2) (nat_le 1 (length (subfields ++ owner library ∷ [])) && list_all is_subfield (subfields ++ owner library ∷ [])) data_field.1).1).1 in
        let size = length-append subfields (owner library ∷ []) in
        let some : 1 ≤ length (subfields ++ owner library ∷ []) = omega (arith, size) in
        body_in-data ind1 ind2 (subfields ++ owner library ∷ []) some formed

    pub owned-read : body_in (spelled (owned_body library f.body)) ≡ owned_body library f.body
    owned-read = read-by f.body f.well_formed

-- ---- the room

le-test : (m n : ℕ) → nat_le m n ≡ true → m ≤ n
le-test m n h = grind (arith, nat_tests)

over-test : (m n : ℕ) → nat_le m n ≡ false → n + 1 ≤ m
over-test m n h = grind (arith, nat_tests)

test-le : (m n : ℕ) → m ≤ n → nat_le m n ≡ true
test-le m n h = grind (arith, nat_tests)

test-over : (m n : ℕ) → n + 1 ≤ m → nat_le m n ≡ false
test-over m n h = grind (arith, nat_tests)

-- the sizes with the code are counted where they are small, and are large where they are not
pub same-room : (a b both size whole : ℕ) → both ≡ min (a + b) 18446744073709551615 → size ≡ min (both + 3) 18446744073709551615 → whole ≡ a + (2 + b)
    → nat_le size 9999 ≡ nat_le (suc whole) 9999
same-room a b both size whole p q r =
    elim (nat_le (suc whole) 9999) as (λ t. nat_le (suc whole) 9999 ≡ t → nat_le size 9999 ≡ t) [
      | true ↦ λ e. (let fits = le-test (suc whole) 9999 e in test-le size 9999 (omega (arith, fits, p, q, r)))
      | false ↦ λ e. (let over = over-test (suc whole) 9999 e in test-over size 9999 (omega (arith, over, p, q, r)))
    ] refl
