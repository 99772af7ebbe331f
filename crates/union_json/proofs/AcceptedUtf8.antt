-- The texts of an accepted record are UTF-8.
use Rattle.std.proofs.Common.{◌≡◌, ℕ, true, false, Bool, List, map, refl, subst, Option, None, Some, inl, inr}
use Rattle.std.specs.List.{list_all}
use Rattle.std.specs.Prelude.{◌⊎◌, ◌==◌, if◌then◌else◌}
use Rattle.marc_fields.proofs.FieldReading.{least-all}
use Rattle.marc_fields.proofs.NoFailure.{spelled-entries, spelled-data}
use Rattle.marc_fields.specs.Rows.{least_where_not, fails, or_then, unless}
use Rattle.marc_fields.specs.Rules.{entry_in, texts_of, data_in, tiling_failure, head_failure, directory_failure}
use Rattle.marc_fields.specs.declared.rules.Failure.{Failure}
use Rattle.marc_fields.specs.declared.rules.Rule.{Rule}
use Rattle.marc_fields.specs.declared.rules.Rule.TheVariants.{Status, Coding, NotUtf8}
use Rattle.marc_leader.specs.declared.entry.Entry.{Entry}
use Rattle.marc_rules.proofs.Utf8Laws.{plain-all, utf8-fields}
use Rattle.marc_rules.specs.Contents.{is_status, is_plain_at, is_utf8_at, coding_failure, content_failure}
use Rattle.marc_rules.specs.NineteenRules.{status_of, coding_of, fields_failure, record_failure, whole_failure}
use Rattle.union_json.specs.Laws.{AcceptedIsUtf8}

-- where neither of two rules fails, none of the two does
or_none : (one other : Option Failure) → or_then one other ≡ None → (one ≡ None) × (other ≡ None)
or_none None other none = (refl, none)
or_none (Some failure) other none = cc

fails_none : (rule : Rule) (place : Option ℕ) → fails rule place ≡ None → place ≡ None
fails_none rule None none = refl
fails_none rule (Some place) none = cc

-- under either coding the texts are looked at
coding_cases : (a b : Bool) (plain utf8 : Option ℕ)
    → or_then (fails Coding (if a then None else (if b then plain else Some 0))) (fails NotUtf8 (if a then utf8 else None)) ≡ None
    → (utf8 ≡ None) ⊎ (plain ≡ None)
coding_cases true b plain utf8 none = inl (fails_none NotUtf8 utf8 none)
coding_cases false true plain utf8 none = inr (fails_none Coding plain (or_none (fails Coding plain) None none).0)
coding_cases false false plain utf8 none = cc

coding-all : (coding : ℕ) (bytes : List ℕ) (entries : List Entry) → coding_failure coding bytes entries ≡ None → list_all (is_utf8_at bytes) entries ≡ true
coding-all coding bytes entries none =
    elim (coding_cases (coding == 0x61) (coding == 0x20) (least_where_not (is_plain_at bytes) 1 entries) (least_where_not (is_utf8_at bytes) 1 entries) none) [
      | inl utf8 ↦ least-all (is_utf8_at bytes) 1 entries utf8
      | inr plain ↦ plain-all bytes entries (least-all (is_plain_at bytes) 1 entries plain)
    ]

fields-all : (status coding : ℕ) (bytes : List ℕ) (entries : List Entry) → fields_failure status coding bytes entries ≡ None
    → list_all (is_utf8_at bytes) entries ≡ true
unfolding content_failure
fields-all status coding bytes entries none =
    let tiled = or_none (tiling_failure bytes entries) _ none in
    let content = or_none (content_failure status coding bytes entries) _ tiled.1 in
    let coded = or_none (fails Status (unless (is_status status))) (coding_failure coding bytes entries) content.0 in
    coding-all coding bytes entries coded.1

pub accepted-utf8 : AcceptedIsUtf8
unfolding whole_failure
accepted-utf8 r is =
    let frame = is.frame in
    let s = is.spells in
    let entries = map entry_in (texts_of frame) in
    let head = or_none (head_failure frame) (record_failure (status_of frame) (coding_of frame) (texts_of frame) (data_in frame)) is.unbroken in
    let directory = or_none (directory_failure (texts_of frame)) (fields_failure (status_of frame) (coding_of frame) (data_in frame) entries) head.1 in
    let Of : List Entry → Type 0 = λ es. list_all (is_utf8_at s.bytes) es ≡ true in
    let With : List ℕ → Type 0 = λ t. list_all (is_utf8_at t) entries ≡ true in
    utf8-fields s.bytes s.entries r.fields s.fields
    (subst Of (spelled-entries frame r s) (subst With (spelled-data frame r s) (fields-all (status_of frame) (coding_of frame) (data_in frame) entries directory.1)))
