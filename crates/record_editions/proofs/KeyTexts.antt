-- A work key is UTF-8, and has none of the bytes that part records, fields and subfields.
use Rattle.std.proofs.Common.{◌≡◌, ℕ, zero, suc, ◌<◌, true, if◌then◌else◌, List, [], ◌∷◌, ◌++◌, refl, ◌∙◌, ap, arith, map}
use Rattle.std.specs.Prelude.{nat_lt, codes, filter, Option, unwrap_or}
use Rattle.std.specs.Cmp.Lexicographic.{slice_cmp}
use Rattle.std.specs.FinMap.{empty, get-empty}
use Rattle.std.specs.Option.{option_and_then}
use Rattle.std.specs.Ordering.{nat_cmp}
use Rattle.std.specs.List.{list_all}
use Rattle.std.specs.Str.{IsAscii, is_utf8}
use Rattle.std.proofs.lemmas.Str.{is_utf8-from_IsUtf8, IsUtf8-from_ascii}
use Rattle.std.proofs.lemmas.Bool.Decides.{nat_tests}
use Rattle.union_base.specs.Both.{both_true, true_both}
use Rattle.union_base.specs.Fields.{is_text_byte}
use Rattle.union_base.specs.LibraryCodes.{is_library_code, may_stand}
use Rattle.union_base.specs.declared.field.Field.{Field}
use Rattle.union_base.specs.declared.record_id.RecordId.{RecordId}
use Rattle.marc_leader.specs.Codes.{is_printable}
use Rattle.marc_parts.specs.Loads.{has_number_shape}
use Rattle.naco_normal.specs.Words.{is_empty}
use Rattle.workset_keys.specs.Names.{name_of}
use Rattle.workset_keys.specs.Texts.{is_key_text}
use Rattle.workset_keys.specs.WorkKeys.{main_name, least_of, or_else, own_name, key_of_names, work_key}
use Rattle.workset_keys.proofs.KeyTexts.{key-both, key-either, key-append, key-name, key-main_name, key-least_of, key-of_names}
use Rattle.authority_names.specs.Leads.{Table, AreTexts, seen_from, used_for}
use Rattle.record_editions.specs.EditionKeys.{is_added_entry, field_in, added_names, work_key_by}
use Rattle.catalogue_editions.specs.ListLaws.{all-weaker}
use Rattle.catalogue_editions.specs.Ids.{least}
use Rattle.catalogue_editions.specs.Sound.{is_id}
use Rattle.catalogue_editions.specs.declared.edition.Edition.{Edition}
use Rattle.record_editions.proofs.EditionTexts.{least-is_id}

-- ---- ids

all-low : (text : List ℕ) → list_all (λ b. nat_lt b 128) text ≡ true → IsAscii text
all-low [] all i = below
  where
    below : 0 < 128
    below = omega arith
all-low (b ∷ text) all zero = low b (both_true (nat_lt b 128) (list_all (λ x. nat_lt x 128) text) all).0
  where
    low : (n : ℕ) → nat_lt n 128 ≡ true → n < 128
    low n h = grind (arith, nat_tests)
all-low (b ∷ text) all (suc i) = all-low text (both_true (nat_lt b 128) (list_all (λ x. nat_lt x 128) text) all).1 i

utf8-low : (text : List ℕ) → list_all (λ b. nat_lt b 128) text ≡ true → is_utf8 text ≡ true
utf8-low text low = is_utf8-from_IsUtf8 text (IsUtf8-from_ascii text (all-low text low))

text-from_code : (b : ℕ) → may_stand b ≡ true → is_text_byte b ≡ true
text-from_code b h = grind (arith, nat_tests)

low-from_code : (b : ℕ) → may_stand b ≡ true → nat_lt b 128 ≡ true
low-from_code b h = grind (arith, nat_tests)

text-from_printing : (b : ℕ) → is_printable b ≡ true → is_text_byte b ≡ true
text-from_printing b h = grind (arith, nat_tests)

low-from_printing : (b : ℕ) → is_printable b ≡ true → nat_lt b 128 ≡ true
low-from_printing b h = grind (arith, nat_tests)

key-own_name : (id : RecordId) → is_id id ≡ true → is_key_text (own_name id) ≡ true
key-own_name id h =
    let parts = both_true (is_library_code id.library) (has_number_shape id.control) h in
    let library = (both_true _ (list_all may_stand id.library) parts.0).1 in
    let control = (both_true _ (list_all is_printable id.control) parts.1).1 in
    key-append (id.library ++ codes ".") id.control
    (key-append id.library (codes ".")
    (key-both id.library (all-weaker may_stand is_text_byte text-from_code id.library library)
    (utf8-low id.library (all-weaker may_stand (λ b. nat_lt b 128) low-from_code id.library library)))
    (key-both (codes ".") refl (utf8-low (codes ".") refl)))
    (key-both id.control (all-weaker is_printable is_text_byte text-from_printing id.control control)
    (utf8-low id.control (all-weaker is_printable (λ b. nat_lt b 128) low-from_printing id.control control)))

-- ---- keys

key-used : (names : Table) → AreTexts names → (x : List ℕ) → is_key_text x ≡ true → is_key_text (used_for names x) ≡ true
key-used names texts x h = key-either (is_empty (seen_from names x)) x (seen_from names x) h (texts x)

keys-used : (names : Table) → AreTexts names → (fields : List Field)
    → list_all is_key_text (map (λ f. used_for names (name_of f)) fields) ≡ true
keys-used names texts [] = refl
keys-used names texts (f ∷ fields) =
    true_both (is_key_text (used_for names (name_of f))) (list_all is_key_text (map (λ g. used_for names (name_of g)) fields))
    (key-used names texts (name_of f) (key-name f)) (keys-used names texts fields)

-- a work key is a text
pub key-work_key : (names : Table) → AreTexts names → (e : Edition) → is_key_text (work_key_by names e) ≡ true
key-work_key names texts e =
    key-of_names (used_for names (main_name (field_in e.content.f1xx))) (least_of (added_names names e.content.united))
    (field_in e.content.f1xx) (field_in e.content.f240) e.content.f245.field (least e)
    (key-used names texts (main_name (field_in e.content.f1xx)) (key-main_name (field_in e.content.f1xx)))
    (key-least_of (added_names names e.content.united) (keys-used names texts (filter is_added_entry e.content.united)))
    (key-own_name (least e) (least-is_id e))

-- the least name of the added entries is only needed where the main entry has none
key-needed : (name least : List ℕ) (main uniform : Option Field) (title : Field) (id : RecordId)
    → key_of_names name (if is_empty name then least else []) main uniform title id ≡ key_of_names name least main uniform title id
key-needed [] least main uniform title id = refl
key-needed (b ∷ bs) least main uniform title id = refl

-- ---- without names

used-empty : (x : List ℕ) → used_for empty x ≡ x
used-empty x = ap (λ lead. or_else (unwrap_or (option_and_then (λ l. l) lead) []) x) (get-empty (slice_cmp nat_cmp) x)

names-empty : (fields : List Field) → map (λ f. used_for empty (name_of f)) fields ≡ map name_of fields
names-empty [] = refl
names-empty (f ∷ fields) =
    ap (λ name. name ∷ map (λ g. used_for empty (name_of g)) fields) (used-empty (name_of f))
    ∙ ap (λ names. name_of f ∷ names) (names-empty fields)

-- a table of no names leaves the key
pub key-by_none : (e : Edition)
    → work_key_by empty e ≡ work_key (field_in e.content.f1xx) (field_in e.content.f240) e.content.f245.field (filter is_added_entry e.content.united) (least e)
key-by_none e =
    ap (λ name. key_of_names name (least_of (added_names empty e.content.united)) (field_in e.content.f1xx) (field_in e.content.f240) e.content.f245.field (least e))
    (used-empty (main_name (field_in e.content.f1xx)))
    ∙ ap (λ names. key_of_names (main_name (field_in e.content.f1xx)) (least_of names) (field_in e.content.f1xx) (field_in e.content.f240) e.content.f245.field (least e))
    (names-empty (filter is_added_entry e.content.united))

-- the key that is made of an edition's parts
pub key-made : (names : Table) (e : Edition) (main uniform : Option Field) (title : Field)
    → main ≡ field_in e.content.f1xx → uniform ≡ field_in e.content.f240 → title ≡ e.content.f245.field
    → (own : List ℕ) → own ≡ main_name main
    → (name : List ℕ) → name ≡ used_for names own
    → (added : List ℕ) → added ≡ (if is_empty name then least_of (added_names names e.content.united) else [])
    → (id : RecordId) → id ≡ least e
    → key_of_names name added main uniform title id ≡ work_key_by names e
key-made names e main uniform title main_is uniform_is title_is own own_is name name_is added added_is id id_is =
    let all_added = least_of (added_names names e.content.united) in
    let whole_name : name ≡ used_for names (main_name (field_in e.content.f1xx)) = name_is ∙ ap (used_for names) (own_is ∙ ap main_name main_is) in
    ap (λ x. key_of_names name x main uniform title id) added_is ∙ key-needed name all_added main uniform title id
    ∙ (λ i. key_of_names (whole_name i) all_added (main_is i) (uniform_is i) (title_is i) (id_is i))
