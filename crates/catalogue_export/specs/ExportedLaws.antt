-- Which rules the record that is shown of an edition keeps.
use Rattle.std.specs.Prelude.{◌≡◌, ℕ, suc, ◌+◌, ◌<◌, ◌≤◌, true, IsTrue, List, ◌∷◌, length, codes, None, Some}
use Rattle.std.specs.List.{list_all}
use Rattle.std.specs.Str.{is_utf8}
use Rattle.union_base.specs.declared.record_id.RecordId.{RecordId}
use Rattle.iso2709_frame.specs.Frames.{IsWhole}
use Rattle.iso2709_frame.specs.declared.cut.Cut.TheVariants.{Whole}
use Rattle.marc_parts.specs.declared.marc_record.Record.{Record}
use Rattle.marc_fields.specs.declared.rules.Rule.TheVariants.{ControlNumber}
use Rattle.marc_parts.specs.Loads.{is_utf8_field}
use Rattle.marc_parts.specs.Parts.{how_many, control_number}
use Rattle.union_base.specs.Blanks.{trim_end}
use Rattle.marc_rules.specs.Accepted.{IsAccepted}
use Rattle.marc_rules.specs.NineteenRules.{first_rule}
use Rattle.field_merge.specs.declared.content.Content.{Content}
use Rattle.catalogue_core.specs.Sound.{is_sound}
use Rattle.catalogue_core.specs.Ids.{least}
use Rattle.catalogue_core.specs.EditionKeys.{work_key_by}
use Rattle.authority_names.specs.Leads.{Table, AreTexts}
use Rattle.catalogue_editions.specs.declared.edition.Edition.{Edition}
use Rattle.catalogue_export.specs.Exported.{exported, edition_bytes}
use Rattle.catalogue_export.specs.Editions.{edition_text}

-- the bytes of a library's code and of a control number there, together; blanks at the end of a control number don't count
abbrev pub name_size : RecordId → ℕ
name_size id = length id.library + length (trim_end id.control)

-- the control number of a record has none there
abbrev pub NumbersEndInNoBlank : Type 0
NumbersEndInNoBlank = (r : Record) → trim_end (control_number r) ≡ control_number r

-- the bytes that are shown of an edition are a whole frame
abbrev pub ExportedIsWhole : Type 0
ExportedIsWhole = (c : Content) (key : List ℕ) → IsTrue (is_sound c) → IsWhole (edition_bytes c key)

-- they break no rule, where its first contributor's code and control number have at most 63
-- bytes together
abbrev pub ExportedBreaksNoRule : Type 0
ExportedBreaksNoRule =
    (c : Content) (id : RecordId) (ids : List RecordId) (key : List ℕ) → IsTrue (is_sound c) → c.contributors ≡ id ∷ ids → IsTrue (is_utf8 key)
    → name_size id ≤ 63 → first_rule Whole (edition_bytes c key) ≡ None

-- so the record is accepted
abbrev pub ExportedIsAccepted : Type 0
ExportedIsAccepted =
    (c : Content) (id : RecordId) (ids : List RecordId) (key : List ℕ) → IsTrue (is_sound c) → c.contributors ≡ id ∷ ids → IsTrue (is_utf8 key)
    → name_size id ≤ 63 → IsAccepted (exported c key)

-- where they have more, its 001 is too long, and that is the first rule that the bytes break: at the 001, which stands after
-- fields 000 alone
abbrev pub ExportedIsNumberedTooLong : Type 0
ExportedIsNumberedTooLong =
    (c : Content) (id : RecordId) (ids : List RecordId) (key : List ℕ) → IsTrue (is_sound c) → c.contributors ≡ id ∷ ids → IsTrue (is_utf8 key)
    → 63 < name_size id
    → first_rule Whole (edition_bytes c key) ≡ Some (record { rule = ControlNumber; place = suc (how_many (codes "000") (exported c key).fields) })

-- so the bytes that are written of an edition break no rule, where its least contributor's code and control number have at
-- most 63 bytes together
abbrev pub EditionIsAccepted : Type 0
EditionIsAccepted =
    (names : Table) → AreTexts names → (e : Edition) → name_size (least e) ≤ 63 → first_rule Whole (edition_text names e) ≡ None

-- and where they have more, the first rule that those bytes break is that its 001 is too long
abbrev pub EditionIsNumberedTooLong : Type 0
EditionIsNumberedTooLong =
    (names : Table) → AreTexts names → (e : Edition) → 63 < name_size (least e)
    → first_rule Whole (edition_text names e)
    ≡ Some (record { rule = ControlNumber; place = suc (how_many (codes "000") (exported e.content (work_key_by names e)).fields) })

-- the texts of the record that is shown of an edition are UTF-8
abbrev pub EditionIsUtf8 : Type 0
EditionIsUtf8 =
    (names : Table) → AreTexts names → (e : Edition) → list_all is_utf8_field (exported e.content (work_key_by names e)).fields ≡ true
