-- What holds of frames and the records that they spell.
use Rattle.std.specs.Prelude.{◌≡◌, ◌↔◌, ◌⊎◌, ℕ, IsTrue, List, None, Some}
use Rattle.marc_leader.specs.Codes.{are_printable}
use Rattle.marc_leader.specs.declared.entry.Entry.{Entry}
use Rattle.marc_fields.specs.Appending.{too_long}
use Rattle.marc_fields.specs.Places.{IsLeast, IsUntiled, IsGap}
use Rattle.marc_fields.specs.Rules.{first_failure, tiling_failure}
use Rattle.marc_fields.specs.Spelling.{Spells, spelling}
use Rattle.marc_parts.specs.declared.marc_record.Record.{Record}
use Rattle.marc_fields.specs.declared.rules.Rule.TheVariants.{Tiling}

-- a frame spells one record at most
abbrev pub SpellsOne : Type 0
SpellsOne = (frame : List ℕ) (one other : Record) → Spells frame one → Spells frame other → one ≡ other

-- a record within the limits is spelled by the frame that has its fields in the order of the directory
abbrev pub IsSpelled : Type 0
IsSpelled = (r : Record) → IsTrue (are_printable r.leader) → too_long r ≡ None → Spells (spelling r) r

-- a frame that spells a record breaks no rule on leader, directory, data and shape of fields
abbrev pub BreaksNoRule : Type 0
BreaksNoRule = (frame : List ℕ) (r : Record) → Spells frame r → first_failure frame ≡ None

-- the rule on ranges fails at the least entry without a place of its own, or else after the last one where a byte has none
abbrev pub TilingPlaceIsLeast : Type 0
TilingPlaceIsLeast = (bytes : List ℕ) (entries : List Entry) (place : ℕ)
    → (tiling_failure bytes entries ≡ Some (record { rule = Tiling; place = place }))
    ↔ (IsLeast (IsUntiled bytes entries) place ⊎ IsGap bytes entries place)
