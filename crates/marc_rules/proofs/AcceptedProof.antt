-- An accepted record has what a load or a withdrawal asks for.
use Rattle.std.proofs.Common.{◌≡◌, ℕ, suc, ◌+◌, ◌-◌, ◌≤◌, Bool, true, false, not, ◌||◌, List, [], ◌∷◌, length, get_or, map, refl, sym, ◌∙◌, ap, subst, arith, inl, inr, Option, None, Some}
use Rattle.std.specs.Prelude.{◌⊎◌, ◌==◌, cond, find, if◌then◌else◌}
use Rattle.std.specs.Option.{option_map_or}
use Rattle.std.specs.List.{list_all}
use Rattle.std.proofs.lemmas.Bool.{and_parts, and_from}
use Rattle.std.proofs.lemmas.Bool.Decides.{nat_tests}
use Rattle.std.proofs.lemmas.List.Sums.{sum_by-cons}
use Rattle.std.proofs.lemmas.Slice.Eq.{bytes_eq-Decides}
use Rattle.marc_leader.specs.declared.entry.Entry.{Entry}
use Rattle.union_base.specs.Fields.{is_control_tag, is_field, is_tag, fits_tag, spelled as body_bytes}
use Rattle.union_base.specs.Bodies.{Body, Control, Data}
use Rattle.union_base.specs.declared.field.Field.{Field}
use Rattle.marc_fields.specs.Rows.{least_where_not, fails, or_then, unless}
use Rattle.marc_fields.specs.Rules.{entry_in, texts_of, data_in, text_of, tiling_failure, shape_failure, head_failure, directory_failure}
use Rattle.marc_fields.specs.Spelling.{leader_bytes, Spells, AreEntriesOf}
use Rattle.marc_parts.specs.declared.marc_record.Record.{Record}
use Rattle.marc_fields.specs.declared.rules.Failure.{Failure}
use Rattle.marc_fields.specs.declared.rules.Rule.{Rule}
use Rattle.marc_fields.specs.declared.rules.Rule.TheVariants.{Status, Coding, NotUtf8, ControlNumber, Repeated, Fixed008, Title245}
use Rattle.marc_fields.proofs.FieldReading.{least-all}
use Rattle.marc_fields.proofs.NoFailure.{text-spelled, spelled-entries, spelled-data}
use Rattle.marc_fields.proofs.RecordLaws.{are-short}
use Rattle.marc_parts.specs.Parts.{has_tag, how_many, text_under, control_text}
use Rattle.marc_parts.specs.Loads.{is_numbered, is_described, is_deleted, is_loadable, is_withdrawal}
use Rattle.marc_rules.specs.AcceptedLaws.{AcceptedIsLoadable, AcceptedIsWithdrawal, AcceptedHasParts, AcceptedIsShort, AcceptedIsPrintable}
use Rattle.marc_rules.specs.Contents.{is_status, is_plain_at, is_utf8_at, coding_failure, content_failure}
use Rattle.marc_rules.specs.NineteenRules.{status_of, coding_of, fields_failure, record_failure, whole_failure}
use Rattle.marc_rules.specs.RequiredFields.{is_same, places, once, no_entry, text_at, is_control_number, tag_001, tag_008, tag_245, control_number_place, fixed_008_place, title_245_place, repeated_from, load_failure, number_failure}
use Rattle.marc_rules.proofs.Utf8Laws.{plain-all, utf8-fields}

-- where neither of two rules fails, none of the two does
or_none : (one other : Option Failure) → or_then one other ≡ None → (one ≡ None) × (other ≡ None)
or_none None other none = (refl, none)
or_none (Some f) other none = cc

fails_none : (rule : Rule) (place : Option ℕ) → fails rule place ≡ None → place ≡ None
fails_none rule None none = refl
fails_none rule (Some place) none = cc

-- the one entry with a tag
record IsOne (passes : ℕ → Bool) (ps : List ℕ) : Type 0 where
  place : ℕ
  only : ps ≡ place ∷ []
  pass : passes place ≡ true

once_none : (passes : ℕ → Bool) (ps : List ℕ) → once passes ps ≡ None → IsOne passes ps
once_none passes [] none = cc
once_none passes (i ∷ []) none = record { place = i; only = refl; pass = of (passes i) none }
  where
    of : (test : Bool) → (if test then None else Some i) ≡ None → test ≡ true
    of true h = refl
    of false h = cc
once_none passes (i ∷ j ∷ rest) none = cc

-- as many fields have a tag as there are places of entries with it
places-count : (tag bytes : List ℕ) (i : ℕ) (entries : List Entry) (fields : List Field) → AreEntriesOf bytes entries fields
    → how_many tag fields ≡ length (places tag i entries)
places-count tag bytes i [] [] are = refl
places-count tag bytes i [] (f ∷ fields) are = absurd are
places-count tag bytes i (e ∷ entries) [] are = absurd are
places-count tag bytes i (e ∷ entries) (f ∷ fields) are = of (has_tag tag f) (places-count tag bytes (suc i) entries fields are.1) refl
  where
    same : is_same e.tag tag ≡ has_tag tag f
    same = ap (λ t. is_same t tag) are.0.tag

    of : (test : Bool) → how_many tag fields ≡ length (places tag (suc i) entries) → has_tag tag f ≡ test
        → how_many tag (f ∷ fields) ≡ length (places tag i (e ∷ entries))
    of true later is =
        let here : is_same e.tag tag ≡ true = same ∙ is in
        let count : how_many tag (f ∷ fields) ≡ 1 + how_many tag fields
        = sum_by-cons (λ g. cond (has_tag tag g) 1 0) f fields ∙ ap (λ b. cond b 1 0 + how_many tag fields) is in
        count ∙ rw here (omega (arith, later))
    of false later is =
        let here : is_same e.tag tag ≡ false = same ∙ is in
        let count : how_many tag (f ∷ fields) ≡ 0 + how_many tag fields
        = sum_by-cons (λ g. cond (has_tag tag g) 1 0) f fields ∙ ap (λ b. cond b 1 0 + how_many tag fields) is in
        count ∙ rw here (omega (arith, later))

-- the text of a field under a control tag is its bytes
control_bytes : (tag : List ℕ) (body : Body) → is_field tag body ≡ true → is_control_tag tag ≡ true → control_text body ≡ body_bytes body
control_bytes tag (Control text) is control = refl
control_bytes tag (Data ind1 ind2 subfields) is control =
    let fits = and_parts (not (is_control_tag tag)) _ (and_parts (is_tag tag) (fits_tag tag (Data ind1 ind2 subfields)) is).1 in
    let other : not true ≡ true = sym (ap not control) ∙ fits.0 in
    cc

-- the text under a tag that one entry has
text-once : (tag bytes : List ℕ) (i j : ℕ) (entries : List Entry) (fields : List Field) → is_control_tag tag ≡ true → AreEntriesOf bytes entries fields
    → places tag i entries ≡ j ∷ [] → (i ≤ j) × (text_under tag fields ≡ text_of bytes (get_or entries (j - i) no_entry))
text-once tag bytes i j [] [] control are one = cc
text-once tag bytes i j [] (f ∷ fields) control are one = absurd are
text-once tag bytes i j (e ∷ entries) [] control are one = absurd are
text-once tag bytes i j (e ∷ entries) (f ∷ fields) control are one = of (has_tag tag f) (λ h. text-once tag bytes (suc i) j entries fields control are.1 h) refl
  where
    same : is_same e.tag tag ≡ has_tag tag f
    same = ap (λ t. is_same t tag) are.0.tag

    head_same : (xs : List ℕ) → i ∷ xs ≡ j ∷ [] → i ≡ j
    head_same xs h = cc

    of : (test : Bool)
        → (places tag (suc i) entries ≡ j ∷ [] → (suc i ≤ j) × (text_under tag fields ≡ text_of bytes (get_or entries (j - suc i) no_entry)))
        → has_tag tag f ≡ test → (i ≤ j) × (text_under tag (f ∷ fields) ≡ text_of bytes (get_or (e ∷ entries) (j - i) no_entry))
    of true next is =
        let here : is_same e.tag tag ≡ true = same ∙ is in
        let first : i ≡ j = head_same (places tag (suc i) entries) (sym (ap (λ b. if b then i ∷ places tag (suc i) entries else places tag (suc i) entries) here) ∙ one) in
        let none : j - i ≡ 0 = omega arith in
        let tagged : f.tag ≡ tag = (bytes_eq-Decides f.tag tag).0 is in
        let text : control_text f.body ≡ text_of bytes e
        = control_bytes f.tag f.body f.well_formed (ap is_control_tag tagged ∙ control) ∙ sym (text-spelled bytes e f are.0) in
        let found : text_under tag (f ∷ fields) ≡ control_text f.body
        = ap (λ b. option_map_or (λ (g : Field). control_text g.body) (cond b (Some f) (find (has_tag tag) fields)) []) is in
        (omega arith, found ∙ (text ∙ ap (λ n. text_of bytes (get_or (e ∷ entries) n no_entry)) (sym none)))
    of false next is =
        let here : is_same e.tag tag ≡ false = same ∙ is in
        let later : places tag (suc i) entries ≡ j ∷ [] = sym (ap (λ b. if b then i ∷ places tag (suc i) entries else places tag (suc i) entries) here) ∙ one in
        let rest = next later in
        let more : j - i ≡ suc (j - suc i) = omega (arith, rest.0) in
        let found : text_under tag (f ∷ fields) ≡ text_under tag fields
        = ap (λ b. option_map_or (λ (g : Field). control_text g.body) (cond b (Some f) (find (has_tag tag) fields)) []) is in
        (omega (arith, rest.0), found ∙ (rest.1 ∙ ap (λ n. text_of bytes (get_or (e ∷ entries) n no_entry)) (sym more)))

-- one entry has the tag, and its text is the field's
one_under : (tag bytes : List ℕ) (entries : List Entry) (fields : List Field) (passes : List ℕ → Bool) → is_control_tag tag ≡ true
    → AreEntriesOf bytes entries fields → once (λ i. passes (text_at bytes entries i)) (places tag 1 entries) ≡ None
    → (how_many tag fields ≡ 1) × (passes (text_under tag fields) ≡ true)
one_under tag bytes entries fields passes control are none =
    let one = once_none (λ i. passes (text_at bytes entries i)) (places tag 1 entries) none in
    let text = text-once tag bytes 1 one.place entries fields control are one.only in
    (places-count tag bytes 1 entries fields are ∙ ap length one.only, ap passes text.1 ∙ one.pass)

one_tagged : (tag bytes : List ℕ) (entries : List Entry) (fields : List Field) → AreEntriesOf bytes entries fields
    → once (λ i. true) (places tag 1 entries) ≡ None → how_many tag fields ≡ 1
one_tagged tag bytes entries fields are none =
    places-count tag bytes 1 entries fields are ∙ ap length (once_none (λ i. true) (places tag 1 entries) none).only

-- the coding leaves texts in UTF-8
coding_cases : (a b : Bool) (plain utf8 : Option ℕ)
    → or_then (fails Coding (if a then None else (if b then plain else Some 0))) (fails NotUtf8 (if a then utf8 else None)) ≡ None
    → (utf8 ≡ None) ⊎ (plain ≡ None)
coding_cases true b plain utf8 none = inl (fails_none NotUtf8 utf8 none)
coding_cases false true plain utf8 none = inr (fails_none Coding plain (or_none (fails Coding plain) None none).0)
coding_cases false false plain utf8 none = cc

coding-all : (coding : ℕ) (bytes : List ℕ) (entries : List Entry) → coding_failure coding bytes entries ≡ None → list_all (is_utf8_at bytes) entries ≡ true
coding-all coding bytes entries none =
    elim (coding_cases (coding == 0x61) (coding == 0x20) (least_where_not (is_plain_at bytes) 1 entries) (least_where_not (is_utf8_at bytes) 1 entries) none) [
      | inl utf8 ↦ least-all (is_utf8_at bytes) 1 entries utf8
      | inr plain ↦ plain-all bytes entries (least-all (is_plain_at bytes) 1 entries plain)
    ]

-- what is known of a frame that breaks no rule
record Kept (status : ℕ) (bytes : List ℕ) (entries : List Entry) : Type 0 where
  has_status : is_status status ≡ true
  utf8 : list_all (is_utf8_at bytes) entries ≡ true
  number : control_number_place bytes entries ≡ None
  load : (if status == 0x64 then None else load_failure bytes entries) ≡ None

status_true : (test : Bool) → unless test ≡ None → test ≡ true
status_true true none = refl
status_true false none = cc

kept : (status coding : ℕ) (bytes : List ℕ) (entries : List Entry) → fields_failure status coding bytes entries ≡ None → Kept status bytes entries
unfolding content_failure number_failure
kept status coding bytes entries none =
    let tiled = or_none (tiling_failure bytes entries) _ none in
    let content = or_none (content_failure status coding bytes entries) _ tiled.1 in
    let shaped = or_none (shape_failure bytes entries) (number_failure status bytes entries) content.1 in
    let coded = or_none (fails Status (unless (is_status status))) (coding_failure coding bytes entries) content.0 in
    let numbered = or_none (fails ControlNumber (control_number_place bytes entries)) (if status == 0x64 then None else load_failure bytes entries) shaped.1 in
    record {
      has_status = status_true (is_status status) (fails_none Status _ coded.0);
      utf8 = coding-all coding bytes entries coded.1;
      number = fails_none ControlNumber _ numbered.0;
      load = numbered.1;
    }

-- the status in a spelled frame
spelled-status : (frame : List ℕ) (r : Record) → Spells frame r → status_of frame ≡ r.leader.status
unfolding leader_bytes
spelled-status frame r s = ap (λ t. get_or t 5 0) s.parts

whole-kept : (frame : List ℕ) (r : Record) (s : Spells frame r) → whole_failure frame ≡ None → Kept r.leader.status s.bytes s.entries
unfolding whole_failure
whole-kept frame r s none =
    let head = or_none (head_failure frame) (record_failure (status_of frame) (coding_of frame) (texts_of frame) (data_in frame)) none in
    let directory = or_none (directory_failure (texts_of frame)) (fields_failure (status_of frame) (coding_of frame) (data_in frame) (map entry_in (texts_of frame))) head.1 in
    let Of : List Entry → Type 0 = λ es. Kept r.leader.status s.bytes es in
    let With : List ℕ → Type 0 = λ t. Kept r.leader.status t (map entry_in (texts_of frame)) in
    let At : ℕ → Type 0 = λ n. Kept n (data_in frame) (map entry_in (texts_of frame)) in
    subst Of (spelled-entries frame r s) (subst With (spelled-data frame r s) (subst At (spelled-status frame r s) (kept (status_of frame) (coding_of frame) (data_in frame) (map entry_in (texts_of frame)) directory.1)))

one_is : (n : ℕ) → n ≡ 1 → (n == 1) ≡ true
one_is n h = grind (arith, nat_tests)

-- one control number
numbered-kept : (r : Record) (bytes : List ℕ) (entries : List Entry) → AreEntriesOf bytes entries r.fields → control_number_place bytes entries ≡ None
    → is_numbered r ≡ true
numbered-kept r bytes entries are none =
    let one = one_under tag_001 bytes entries r.fields is_control_number refl are none in
    and_from _ _ (one_is (how_many tag_001 r.fields) one.0) one.1

-- one 008 of 40 bytes, and one 245
described-kept : (r : Record) (bytes : List ℕ) (entries : List Entry) → AreEntriesOf bytes entries r.fields → load_failure bytes entries ≡ None
    → is_described r ≡ true
described-kept r bytes entries are none =
    let repeated = or_none (fails Repeated (repeated_from [] 1 entries)) _ none in
    let both = or_none (fails Fixed008 (fixed_008_place bytes entries)) (fails Title245 (title_245_place entries)) repeated.1 in
    let fixed = one_under tag_008 bytes entries r.fields (λ t. length t == 40) refl are (fails_none Fixed008 _ both.0) in
    let title = one_tagged tag_245 bytes entries r.fields are (fails_none Title245 _ both.1) in
    and_from _ _ (and_from _ _ (one_is (how_many tag_008 r.fields) fixed.0) fixed.1) (one_is (how_many tag_245 r.fields) title)

load_status : (a c d n p : Bool) → ((((a || c) || d) || n) || p) ≡ true → d ≡ false → ((n || c) || (a || p)) ≡ true
load_status true true d true p is other = refl
load_status true false d true p is other = refl
load_status true true d false p is other = refl
load_status true false d false p is other = refl
load_status false true d true p is other = refl
load_status false true d false p is other = refl
load_status false false d true p is other = refl
load_status false false d false true is other = refl
load_status false false true false false is other = cc
load_status false false false false false is other = cc

pub accepted-loadable : AcceptedIsLoadable
accepted-loadable r is other =
    let s = is.spells in
    let all = whole-kept is.frame r s is.unbroken in
    let load : load_failure s.bytes s.entries ≡ None = sym (ap (λ (b : Bool). if b then None else load_failure s.bytes s.entries) other) ∙ all.load in
    and_from _ _
    (and_from _ _ (load_status (r.leader.status == 0x61) (r.leader.status == 0x63) (r.leader.status == 0x64) (r.leader.status == 0x6E) (r.leader.status == 0x70) all.has_status other)
    (numbered-kept r s.bytes s.entries s.fields all.number))
    (and_from _ _ (described-kept r s.bytes s.entries s.fields load) (utf8-fields s.bytes s.entries r.fields s.fields all.utf8))

pub accepted-withdrawal : AcceptedIsWithdrawal
accepted-withdrawal r is deleted =
    let s = is.spells in
    and_from _ _ deleted (numbered-kept r s.bytes s.entries s.fields (whole-kept is.frame r s is.unbroken).number)

pub accepted-parts : AcceptedHasParts
accepted-parts r is = of (is_deleted r.leader.status) refl
  where
    or_left : (a b : Bool) → a ≡ true → (a || b) ≡ true
    or_left true b h = refl
    or_left false b h = cc

    or_right : (a b : Bool) → b ≡ true → (a || b) ≡ true
    or_right true b h = refl
    or_right false b h = h

    of : (test : Bool) → is_deleted r.leader.status ≡ test → (is_loadable r || is_withdrawal r) ≡ true
    of true deleted = or_right (is_loadable r) (is_withdrawal r) (accepted-withdrawal r is deleted)
    of false other = or_left (is_loadable r) (is_withdrawal r) (accepted-loadable r is other)

pub accepted-short : AcceptedIsShort
accepted-short r is = are-short is.spells.bytes is.spells.entries r.fields is.spells.fields

pub accepted-printable : AcceptedIsPrintable
accepted-printable r is = is.spells.codes
