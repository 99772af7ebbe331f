-- The rules that a spelled record may break.
use Rattle.std.proofs.Common.{◌≡◌, ℕ, zero, suc, ◌<◌, Bool, true, not, ◌&&◌, List, [], ◌∷◌, get_or, map, refl, ◌∙◌, ap, arith, Option, None, Some}
use Rattle.std.proofs.lemmas.Bool.{and_parts, and_from}
use Rattle.std.proofs.lemmas.Bool.Decides.{nat_tests}
use Rattle.std.proofs.lemmas.Str.{IsUtf8-from_is_utf8, is_utf8-from_IsUtf8, IsUtf8-nil, IsUtf8-append, IsUtf8-from_ascii}
use Rattle.std.specs.List.{flat_map, list_all}
use Rattle.std.specs.Str.{IsUtf8, IsAscii, is_utf8}
use Rattle.marc_leader.specs.declared.entry.Entry.{Entry}
use Rattle.union_base.specs.Fields.{is_subfield, is_subfield_code, is_indicator, is_text, spelled_subfield, spelled as body_bytes, fits_tag, is_field, is_tag, is_control_tag}
use Rattle.union_base.specs.Bodies.{Subfield, Body, Control, Data}
use Rattle.union_base.specs.declared.field.Field.{Field}
use Rattle.marc_fields.specs.Rows.{or_then, least_where_not}
use Rattle.marc_fields.specs.Rules.{entry_in, texts_of, data_in, first_failure, head_failure, directory_failure, tiling_failure, shape_failure, data_failure, parts_failure}
use Rattle.marc_fields.specs.Spelling.{leader_bytes, Spells, AreEntriesOf}
use Rattle.marc_parts.specs.declared.marc_record.Record.{Record}
use Rattle.marc_fields.specs.declared.rules.Failure.{Failure}
use Rattle.marc_fields.proofs.NoFailure.{text-spelled, spelled-entries, spelled-data, spelled-no_failure}
use Rattle.marc_parts.specs.Loads.{is_utf8_subfield, is_utf8_body, is_utf8_field}
use Rattle.marc_rules.specs.Contents.{is_utf8_at, content_failure}
use Rattle.marc_rules.specs.NineteenRules.{status_of, coding_of, whole_failure}
use Rattle.marc_rules.specs.RequiredFields.{number_failure}

or_none : (one other : Option Failure) → or_then one other ≡ None → (one ≡ None) × (other ≡ None)
or_none None other none = (refl, none)
or_none (Some f) other none = cc

-- the rules on status, coding and numbers
abbrev pub remaining : ℕ → ℕ → List ℕ → List Entry → Option Failure
remaining status coding bytes entries = or_then (content_failure status coding bytes entries) (number_failure status bytes entries)

module _ (frame : List ℕ) (r : Record) (s : Spells frame r) where
  spelled-status : status_of frame ≡ r.leader.status
  unfolding leader_bytes
  spelled-status = ap (λ t. get_or t 5 0) s.parts

  spelled-coding : coding_of frame ≡ r.leader.coding
  unfolding leader_bytes
  spelled-coding = ap (λ t. get_or t 9 0) s.parts

  whole-first : whole_failure frame ≡ remaining (status_of frame) (coding_of frame) (data_in frame) (map entry_in (texts_of frame))
  unfolding first_failure whole_failure
  whole-first =
      let bytes = data_in frame in
      let entries = map entry_in (texts_of frame) in
      let head = or_none (head_failure frame) (parts_failure (texts_of frame) bytes) (spelled-no_failure frame r s) in
      let directory = or_none (directory_failure (texts_of frame)) (data_failure bytes entries) head.1 in
      let shaped = or_none (tiling_failure bytes entries) (shape_failure bytes entries) directory.1 in
      rw (head.0, directory.0, shaped.0, shaped.1) refl

  -- a spelled record can break no rule but these
  pub whole-remaining : whole_failure frame ≡ remaining r.leader.status r.leader.coding s.bytes s.entries
  whole-remaining =
      whole-first
      ∙ (ap (λ n. remaining n (coding_of frame) (data_in frame) (map entry_in (texts_of frame))) spelled-status
      ∙ (ap (λ n. remaining r.leader.status n (data_in frame) (map entry_in (texts_of frame))) spelled-coding
      ∙ (ap (λ t. remaining r.leader.status r.leader.coding t (map entry_in (texts_of frame))) (spelled-data frame r s)
      ∙ ap (remaining r.leader.status r.leader.coding s.bytes) (spelled-entries frame r s))))

-- a byte of ASCII before a text
in_front : (b : ℕ) (t : List ℕ) → b < 128 → IsUtf8 t → IsUtf8 (b ∷ t)
in_front b t low u = IsUtf8-append (b ∷ []) t (IsUtf8-from_ascii (b ∷ []) alone) u
  where
    alone : IsAscii (b ∷ [])
    alone zero = low
    alone (suc i) = below
      where
        below : 0 < 128
        below = omega arith

code_low : (b : ℕ) → is_subfield_code b ≡ true → b < 128
code_low b is = grind (arith, nat_tests)

indicator_low : (b : ℕ) → is_indicator b ≡ true → b < 128
indicator_low b is = grind (arith, nat_tests)

subfields-utf8 : (subfields : List Subfield) → list_all is_subfield subfields ≡ true → list_all is_utf8_subfield subfields ≡ true
    → IsUtf8 (flat_map spelled_subfield subfields)
subfields-utf8 [] formed texts = IsUtf8-nil
subfields-utf8 (s ∷ subfields) formed texts =
    let both = and_parts (is_subfield s) (list_all is_subfield subfields) formed in
    let u = and_parts (is_utf8_subfield s) (list_all is_utf8_subfield subfields) texts in
    let code = (and_parts (is_subfield_code s.code) (is_text s.text) both.0).0 in
    in_front 0x1F _ (omega arith) (in_front s.code _ (code_low s.code code)
    (IsUtf8-append s.text (flat_map spelled_subfield subfields) (IsUtf8-from_is_utf8 s.text u.0) (subfields-utf8 subfields both.1 u.1)))

-- a field whose texts are UTF-8 is spelled in UTF-8
body-utf8 : (tag : List ℕ) (body : Body) → is_field tag body ≡ true → is_utf8_body body ≡ true → is_utf8 (body_bytes body) ≡ true
body-utf8 tag (Control text) is u = u
body-utf8 tag (Data ind1 ind2 subfields) is u =
    let fits = and_parts (not (is_control_tag tag)) _ (and_parts (is_tag tag) (fits_tag tag (Data ind1 ind2 subfields)) is).1 in
    let both = and_parts (is_indicator ind1 && is_indicator ind2) _ fits.1 in
    let two = and_parts (is_indicator ind1) (is_indicator ind2) both.0 in
    let formed = (and_parts _ (list_all is_subfield subfields) both.1).1 in
    is_utf8-from_IsUtf8 _ (in_front ind1 _ (indicator_low ind1 two.0) (in_front ind2 _ (indicator_low ind2 two.1) (subfields-utf8 subfields formed u)))

entries-utf8 : (bytes : List ℕ) (entries : List Entry) (fields : List Field) → AreEntriesOf bytes entries fields
    → list_all is_utf8_field fields ≡ true → list_all (is_utf8_at bytes) entries ≡ true
entries-utf8 bytes [] [] are all = refl
entries-utf8 bytes [] (f ∷ fields) are all = absurd are
entries-utf8 bytes (e ∷ entries) [] are all = absurd are
entries-utf8 bytes (e ∷ entries) (f ∷ fields) are all =
    let both = and_parts (is_utf8_field f) (list_all is_utf8_field fields) all in
    and_from _ _ (ap is_utf8 (text-spelled bytes e f are.0) ∙ body-utf8 f.tag f.body f.well_formed both.0) (entries-utf8 bytes entries fields are.1 both.1)

least-none : {A : Type 0} (p : A → Bool) (i : ℕ) (xs : List A) → list_all p xs ≡ true → least_where_not p i xs ≡ None
least-none p i [] all = refl
least-none p i (x ∷ xs) all =
    let both = and_parts (p x) (list_all p xs) all in
    rw both.0 (least-none p (suc i) xs both.1)

content-none : (bytes : List ℕ) (entries : List Entry) → list_all (is_utf8_at bytes) entries ≡ true → content_failure 0x6E 0x61 bytes entries ≡ None
unfolding content_failure
content-none bytes entries all = rw (least-none (is_utf8_at bytes) 1 entries all) refl

-- a new record whose texts are UTF-8, and whose coding says so, breaks no rule but those on numbers
pub remaining-numbers : (status coding : ℕ) (bytes : List ℕ) (entries : List Entry) (fields : List Field) → status ≡ 0x6E → coding ≡ 0x61
    → AreEntriesOf bytes entries fields → list_all is_utf8_field fields ≡ true → remaining status coding bytes entries ≡ number_failure 0x6E bytes entries
remaining-numbers status coding bytes entries fields new unicode are all =
    ap (λ n. remaining n coding bytes entries) new ∙ (ap (λ n. remaining 0x6E n bytes entries) unicode
    ∙ ap (λ f. or_then f (number_failure 0x6E bytes entries)) (content-none bytes entries (entries-utf8 bytes entries fields are all)))
