-- Each frame of the generator breaks no rule.
use Rattle.std.proofs.Common.{◌≡◌, ℕ, ◌+◌, ◌<◌, ◌≤◌, Bool, true, false, not, ◌&&◌, List, [], ◌∷◌, ◌++◌, refl, sym, ◌∙◌, ap, subst, arith, None}
use Rattle.std.specs.Prelude.{◌==◌, codes, nat_lt, if◌then◌else◌}
use Rattle.std.specs.List.{list_all}
use Rattle.std.specs.Str.{is_utf8}
use Rattle.std.proofs.lemmas.Bool.{and_parts, not-true, ne_eqb}
use Rattle.std.proofs.lemmas.Bool.Decides.{nat_tests}
use Rattle.std.proofs.lemmas.Str.{is_utf8-from_IsUtf8}
use Rattle.iso2709_frame.specs.Frames.{IsWhole}
use Rattle.iso2709_frame.specs.declared.cut.Cut.TheVariants.{Whole}
use Rattle.union_base.specs.Both.{true_both}
use Rattle.union_base.specs.Fields.{is_text_byte, is_text}
use Rattle.union_base.specs.Bodies.{Control, Data}
use Rattle.union_base.specs.declared.field.Field.{Field}
use Rattle.marc_leader.specs.Codes.{is_printable, are_printable}
use Rattle.marc_leader.specs.Numeral.{numeral}
use Rattle.marc_fields.specs.Appending.{too_long}
use Rattle.marc_leader.specs.declared.entry.Entry.{Entry}
use Rattle.marc_fields.specs.Rules.{text_of}
use Rattle.marc_fields.specs.Spelling.{spelling, Spells, AreEntriesOf}
use Rattle.marc_fields.proofs.NoFailure.{text-spelled}
use Rattle.marc_parts.specs.declared.marc_record.Record.{Record}
use Rattle.marc_fields.proofs.RecordLaws.{spelling-IsSpelled}
use Rattle.marc_parts.specs.Loads.{has_number_shape, is_utf8_field}
use Rattle.union_base.specs.Blanks.{trim_start, before_trimmed, trim_end, trimmed}
use Rattle.marc_rules.proofs.CheckLaws.{frame-IsWhole}
use Rattle.marc_rules.specs.Contents.{is_utf8_at, content_failure}
use Rattle.marc_rules.specs.NineteenRules.{first_rule}
use Rattle.marc_rules.specs.RequiredFields.{is_same, is_control_number, tag_001, number_failure}
use Rattle.catalogue_export.proofs.CountLaws.{one_if}
use Rattle.catalogue_export.proofs.EntryLaws.{passes_under, AreCounted, number-none}
use Rattle.catalogue_export.proofs.ExportedProof.{low_utf8}
use Rattle.catalogue_export.proofs.FieldLaws.{field_of-is}
use Rattle.catalogue_export.proofs.SpelledLaws.{remaining, whole-remaining, remaining-numbers}
use Rattle.catalogue_export.proofs.WholeLaws.{spelling-ends}
use Rattle.catalogue_export.specs.Exported.{subfield}
use Rattle.union_trial.specs.TrialRecords.{codes_of_status, number_field, fixed_text, isbn_text, load_fields, record_of}
use Rattle.union_trial.specs.declared.draws.Draws.{Draws}
use Rattle.union_trial.proofs.Digits.{numeral-all, fixed-all, isbn-all, named-all, digit-text, digit-prints, digit-low}

-- a text without blanks is trimmed
abbrev is_dark : ℕ → Bool
is_dark b = not (b == 0x20)

dark-start : (t : List ℕ) → list_all is_dark t ≡ true → trim_start t ≡ t
dark-start [] all = refl
dark-start (b ∷ t) all = rw (not-true (b == 0x20) (and_parts (is_dark b) (list_all is_dark t) all).0) refl

dark-before : (b : ℕ) (t : List ℕ) → is_dark b ≡ true → before_trimmed b t ≡ b ∷ t
dark-before b [] dark = rw (not-true (b == 0x20) dark) refl
dark-before b (c ∷ t) dark = refl

dark-end : (t : List ℕ) → list_all is_dark t ≡ true → trim_end t ≡ t
dark-end [] all = refl
dark-end (b ∷ t) all =
    let both = and_parts (is_dark b) (list_all is_dark t) all in
    ap (before_trimmed b) (dark-end t both.1) ∙ dark-before b t both.0

dark-trimmed : (t : List ℕ) → list_all is_dark t ≡ true → trimmed t ≡ t
dark-trimmed t all = ap trim_end (dark-start t all) ∙ dark-end t all

digit-dark : (n : ℕ) → n < 10 → is_dark (48 + n) ≡ true
digit-dark n less = grind (arith, nat_tests)

-- eight digits are a control number
eight-control : (n : ℕ) → is_control_number (numeral 8 n) ≡ true
eight-control n =
    let digits = numeral 8 n in
    let At : List ℕ → Type 0 = λ t. has_number_shape t ≡ true in
    subst At (sym (dark-trimmed digits (numeral-all is_dark digit-dark 8 n))) (numeral-all is_printable digit-prints 8 n)

-- ASCII is UTF-8
abbrev is_low : ℕ → Bool
is_low b = nat_lt b 128

low-is_utf8 : (t : List ℕ) → list_all is_low t ≡ true → is_utf8 t ≡ true
low-is_utf8 t all = is_utf8-from_IsUtf8 t (low_utf8 t all)

few_main : (b : Bool) → 0 + (0 + (0 + (one_if b + (0 + 0)))) ≤ 1
few_main true = omega arith
few_main false = omega arith

module _ (d : Draws) where
  number : Field
  number = record { tag = codes "001"; body = Control (numeral 8 d.control); well_formed = numeral-all is_text_byte digit-text 8 d.control }

  fixed : Field
  fixed = record { tag = codes "008"; body = Control (fixed_text d.year); well_formed = fixed-all is_text_byte digit-text refl refl d.year }

  isbn : Field
  isbn = record {
    tag = codes "020";
    body = Data 0x20 0x20 (subfield 0x61 (isbn_text d.number) ∷ []);
    well_formed = true_both (is_text (isbn_text d.number)) true (isbn-all is_text_byte digit-text refl d.number) refl;
  }

  author : Field
  author = record {
    tag = codes "100";
    body = Data 0x31 0x20 (subfield 0x61 (codes "Author " ++ numeral 8 d.name) ∷ []);
    well_formed = true_both (is_text (codes "Author " ++ numeral 8 d.name)) true (named-all is_text_byte digit-text (codes "Author ") refl d.name) refl;
  }

  title : Field
  title = record {
    tag = codes "245";
    body = Data 0x30 0x30 (subfield 0x61 (codes "Title " ++ numeral 8 d.title) ∷ []);
    well_formed = true_both (is_text (codes "Title " ++ numeral 8 d.title)) true (named-all is_text_byte digit-text (codes "Title ") refl d.title) refl;
  }

  -- the record that is loaded, and the one that withdraws
  loaded : List Field
  loaded = number ∷ fixed ∷ isbn ∷ author ∷ title ∷ []

  loaded-is : load_fields d ≡ loaded
  unfolding loaded number fixed isbn author title
  loaded-is = λ i. field_of-is number i ++ (field_of-is fixed i ++ (field_of-is isbn i ++ (field_of-is author i ++ field_of-is title i)))

  number-is : number_field d ≡ number ∷ []
  unfolding number
  number-is = field_of-is number

  load : Record
  load = record { leader = codes_of_status 0x6E; fields = loaded }

  withdrawal : Record
  withdrawal = record { leader = codes_of_status 0x64; fields = number ∷ [] }

  -- it is one of the two
  one_of : (P : Record → Type 0) → P load → P withdrawal → P (record_of d)
  unfolding load withdrawal
  one_of P one other =
      let Loads : List Field → Type 0 = λ fields. P (record { leader = codes_of_status 0x6E; fields = fields }) in
      let Withdraws : List Field → Type 0 = λ fields. P (record { leader = codes_of_status 0x64; fields = fields }) in
      elim (d.op == 0) as (λ b. P (if b
      then record { leader = codes_of_status 0x64; fields = number_field d }
      else record { leader = codes_of_status 0x6E; fields = load_fields d })) [
        | true ↦ subst Withdraws (sym number-is) other
        | false ↦ subst Loads (sym loaded-is) one
      ]

  -- both are short enough
  pub drawn-fits : too_long (record_of d) ≡ None
  unfolding load withdrawal loaded number fixed isbn author title
  drawn-fits = one_of (λ r. too_long r ≡ None) refl refl

  pub drawn-prints : are_printable (record_of d).leader ≡ true
  unfolding load withdrawal
  drawn-prints = one_of (λ r. are_printable r.leader ≡ true) refl refl

  -- so a frame spells it
  pub drawn-Spells : Spells (spelling (record_of d)) (record_of d)
  drawn-Spells = spelling-IsSpelled (record_of d) drawn-prints drawn-fits

  pub drawn-whole : IsWhole (spelling (record_of d))
  drawn-whole = frame-IsWhole (spelling (record_of d)) (record { size = drawn-Spells.short; ends = spelling-ends (record_of d) drawn-prints })

  number-utf8 : is_utf8 (numeral 8 d.control) ≡ true
  number-utf8 = low-is_utf8 (numeral 8 d.control) (numeral-all is_low digit-low 8 d.control)

  subfield-utf8 : (text : List ℕ) → list_all is_low text ≡ true → (is_utf8 text && true) ≡ true
  subfield-utf8 text low = true_both (is_utf8 text) true (low-is_utf8 text low) refl

  loaded-utf8 : list_all is_utf8_field loaded ≡ true
  unfolding loaded number fixed isbn author title
  loaded-utf8 =
      true_both (is_utf8_field number) _ number-utf8
      (true_both (is_utf8_field fixed) _ (low-is_utf8 (fixed_text d.year) (fixed-all is_low digit-low refl refl d.year))
      (true_both (is_utf8_field isbn) _ (subfield-utf8 (isbn_text d.number) (isbn-all is_low digit-low refl d.number))
      (true_both (is_utf8_field author) _ (subfield-utf8 (codes "Author " ++ numeral 8 d.name) (named-all is_low digit-low (codes "Author ") refl d.name))
      (true_both (is_utf8_field title) true (subfield-utf8 (codes "Title " ++ numeral 8 d.title) (named-all is_low digit-low (codes "Title ") refl d.title)) refl))))

  loaded-counted : AreCounted loaded
  unfolding loaded number fixed isbn author title
  loaded-counted = record {
    numbered = refl;
    described = refl;
    sized = refl;
    titled = refl;
    apart = λ k some. rw (ne_eqb 0 k (λ e. some (sym e))) (few_main (6 == k));
  }

  loaded-number : list_all (passes_under tag_001 is_control_number) loaded ≡ true
  unfolding loaded number fixed isbn author title
  loaded-number = true_both (is_control_number (numeral 8 d.control)) true (eight-control d.control) refl

  load-unbroken : (s : Spells (spelling load) load) → first_rule Whole (spelling load) ≡ None
  unfolding load
  load-unbroken s =
      whole-remaining (spelling load) load s
      ∙ remaining-numbers 0x6E 0x61 s.bytes s.entries loaded refl refl s.fields loaded-utf8
      ∙ number-none s.bytes s.entries loaded s.fields loaded-counted loaded-number

  withdrawal-none : (bytes : List ℕ) (entries : List Entry) → AreEntriesOf bytes entries (number ∷ []) → remaining 0x64 0x61 bytes entries ≡ None
  unfolding content_failure number_failure number
  withdrawal-none bytes [] are = absurd are
  withdrawal-none bytes (e ∷ []) are =
      let same : is_same e.tag tag_001 ≡ true = ap (λ t. is_same t tag_001) are.0.tag in
      let text : text_of bytes e ≡ numeral 8 d.control = text-spelled bytes e number are.0 in
      let unicode : is_utf8_at bytes e ≡ true = ap is_utf8 text ∙ number-utf8 in
      let control : is_control_number (text_of bytes e) ≡ true = ap is_control_number text ∙ eight-control d.control in
      rw (unicode, same, control) refl
  withdrawal-none bytes (e ∷ more ∷ entries) are = absurd are.1

  withdrawal-unbroken : (s : Spells (spelling withdrawal) withdrawal) → first_rule Whole (spelling withdrawal) ≡ None
  unfolding withdrawal
  withdrawal-unbroken s = whole-remaining (spelling withdrawal) withdrawal s ∙ withdrawal-none s.bytes s.entries s.fields

  -- it breaks no rule
  pub drawn-unbroken : first_rule Whole (spelling (record_of d)) ≡ None
  drawn-unbroken = one_of (λ r. Spells (spelling r) r → first_rule Whole (spelling r) ≡ None) load-unbroken withdrawal-unbroken drawn-Spells
