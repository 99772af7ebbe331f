-- The frame that has the fields' bytes in the order of the directory spells the record.
use Rattle.std.proofs.Common.{◌≡◌, ℕ, ◌+◌, ◌*◌, ◌<◌, ◌≤◌, Bool, true, false, List, [], ◌∷◌, ◌++◌, length, refl, subst, arith, append_assoc, length-append, inl, inr, Option, None, Some, Ok, Err}
use Rattle.std.proofs.Math.Seq.{take-append_seam, drop-append_seam}
use Rattle.std.proofs.lemmas.Bool.{and_parts, eqb-true, cases_lt}
use Rattle.std.proofs.lemmas.Bool.Decides.{nat_tests}
use Rattle.std.specs.List.{flat_map, list_all}
use Rattle.std.specs.Prelude.{if◌then◌else◌, ◌==◌}
use Rattle.marc_leader.specs.Codes.{are_printable, Codes}
use Rattle.marc_leader.specs.Leader.{leader_of, counted, misfit, length_place, base_place, codes_of}
use Rattle.marc_leader.specs.Numeral.{are_digits, number_of}
use Rattle.marc_leader.specs.declared.entry.Entry.{Entry}
use Rattle.marc_leader.specs.declared.leader.Leader.{Leader}
use Rattle.marc_leader.specs.declared.leader.LeaderRule.TheVariants.{LengthDigits, BaseDigits}
use Rattle.marc_leader.proofs.LeaderLaws.{printable-at}
use Rattle.union_base.specs.Fields.{is_tag, fits_tag, is_tag_byte}
use Rattle.union_base.specs.declared.field.Field.{Field}
use Rattle.marc_parts.specs.declared.marc_record.Record.{Record}
use Rattle.marc_fields.specs.Spelling.{stored, entry_at, entries_from, entry_bytes, leader_bytes, is_short, is_in, owners, frame_size, spelling, Spells, IsEntryOf, AreEntriesOf}

-- a tag has three bytes
pub length-tag : (f : Field) → length f.tag ≡ 3
length-tag f =
    let tag : is_tag f.tag ≡ true = (and_parts (is_tag f.tag) (fits_tag f.tag f.body) f.well_formed).0 in
    eqb-true _ _ (and_parts (length f.tag == 3) (list_all is_tag_byte f.tag) tag).0

-- a leader has 24 bytes
pub length-leader_bytes : (size entries : ℕ) (codes : Codes) → length (leader_bytes size entries codes) ≡ 24
unfolding leader_bytes
length-leader_bytes size entries codes = refl

-- an entry has 12 bytes
pub length-entry_bytes : (e : Entry) → length e.tag ≡ 3 → length (entry_bytes e) ≡ 12
unfolding entry_bytes
length-entry_bytes e three = simp length-append (omega arith)

-- the directory has 12 bytes for each field
pub length-directory : (start : ℕ) (fields : List Field) → length (flat_map entry_bytes (entries_from start fields)) ≡ 12 * length fields
length-directory start [] = refl
length-directory start (f ∷ fields) =
    let one : length (entry_bytes (entry_at start f)) ≡ 12 = length-entry_bytes (entry_at start f) (length-tag f) in
    let later = length-directory (start + length (stored f)) fields in
    omega (arith, one, later, length-append (entry_bytes (entry_at start f)) (flat_map entry_bytes (entries_from (start + length (stored f)) fields)))

-- fields that lie one after the other lie where their entries say
pub AreEntriesOf-entries_from : (front : List ℕ) (fields : List Field) → list_all is_short fields ≡ true
    → AreEntriesOf (front ++ flat_map stored fields) (entries_from (length front) fields) fields
AreEntriesOf-entries_from front [] short = tt
AreEntriesOf-entries_from front (f ∷ fields) short =
    let parts = and_parts (is_short f) (list_all is_short fields) short in
    let rest = flat_map stored fields in
    let later : AreEntriesOf ((front ++ stored f) ++ rest) (entries_from (length (front ++ stored f)) fields) fields
    = AreEntriesOf-entries_from (front ++ stored f) fields parts.1 in
    let here : IsEntryOf (front ++ (stored f ++ rest)) (entry_at (length front) f) f = record {
      tag = refl;
      short = grind (arith, nat_tests, parts.0);
      inside = omega (arith, length-append front (stored f ++ rest), length-append (stored f) rest);
      there = rw (drop-append_seam front (stored f ++ rest)) (take-append_seam (stored f) rest);
    } in
    let Law : ℕ → Type 0 = λ start. AreEntriesOf ((front ++ stored f) ++ rest) (entries_from start fields) fields in
    let Same : List ℕ → Type 0 = λ bytes. AreEntriesOf bytes (entries_from (length front + length (stored f)) fields) fields in
    (here, subst Same (append_assoc front (stored f) rest) (subst Law (length-append front (stored f)) later))

-- a byte before all fields is in no range
pub owners-none : (start at : ℕ) (fields : List Field) → at < start → owners at (entries_from start fields) ≡ 0
owners-none start at [] before = refl
owners-none start at (f ∷ fields) before =
    let out : is_in at (entry_at start f) ≡ false = grind (arith, nat_tests) in
    let less : at < start + length (stored f) = omega arith in
    rw (out, owners-none (start + length (stored f)) at fields less) refl

-- a byte of the fields is in one range
pub owners-one : (start at : ℕ) (fields : List Field) → start ≤ at → at < start + length (flat_map stored fields)
    → owners at (entries_from start fields) ≡ 1
owners-one start at [] low high = absurd (omega arith)
owners-one start at (f ∷ fields) low high =
    let size : length (flat_map stored (f ∷ fields)) ≡ length (stored f) + length (flat_map stored fields)
    = length-append (stored f) (flat_map stored fields) in
    elim (cases_lt at (start + length (stored f))) [
      | inl before ↦
          let inside : is_in at (entry_at start f) ≡ true = grind (arith, nat_tests) in
          rw (inside, owners-none (start + length (stored f)) at fields before) refl
      | inr behind ↦
          let out : is_in at (entry_at start f) ≡ false = grind (arith, nat_tests) in
          let less : at < start + length (stored f) + length (flat_map stored fields) = omega arith in
          rw (out, owners-one (start + length (stored f)) at fields behind less) refl
    ]

-- the frame has as many bytes as were counted
pub length-spelling : (r : Record) → length (spelling r) ≡ frame_size r
unfolding spelling
length-spelling r =
    let entries = entries_from 0 r.fields in
    let leader = leader_bytes (frame_size r) (length entries) r.leader in
    let directory = flat_map entry_bytes entries in
    let bytes = flat_map stored r.fields in
    omega (
      arith,
      length-leader_bytes (frame_size r) (length entries) r.leader,
      length-directory 0 r.fields,
      length-append leader (directory ++ (0x1E ∷ (bytes ++ 0x1D ∷ []))),
      length-append directory (0x1E ∷ (bytes ++ 0x1D ∷ [])),
      length-append bytes (0x1D ∷ []),
    )

-- a record within the limits is spelled by its frame
pub spelling-Spells : (r : Record) → are_printable r.leader ≡ true → list_all is_short r.fields ≡ true → frame_size r ≤ 99999
    → Spells (spelling r) r
unfolding spelling
spelling-Spells r codes short few = record {
  entries = entries_from 0 r.fields;
  bytes = flat_map stored r.fields;
  parts = rw (length-spelling r) refl;
  short = rw (length-spelling r) few;
  codes = codes;
  fields = AreEntriesOf-entries_from [] r.fields short;
  partition = λ at below. owners-one 0 at r.fields (omega arith) (omega arith);
}

-- the codes of a leader that was read are printable
counted_codes : (d e : Bool) (m : Option ℕ) (text : List ℕ) (leader : Leader) → length text ≡ 24 → misfit text ≡ m
    → (if d then (if e then counted m text else Err BaseDigits) else Err LengthDigits) ≡ Ok leader → are_printable leader.codes ≡ true
counted_codes true true None text leader size fits is =
    let one : Leader = record { length = number_of (length_place text); base = number_of (base_place text); codes = codes_of text } in
    let same : one ≡ leader = cc in
    subst (λ (l : Leader). are_printable l.codes ≡ true) same (printable-at text size fits)
counted_codes true true (Some at) text leader size fits is = cc
counted_codes true false m text leader size fits is = cc
counted_codes false e m text leader size fits is = cc

pub leader_of-printable : (text : List ℕ) (leader : Leader) → length text ≡ 24 → leader_of text ≡ Ok leader → are_printable leader.codes ≡ true
leader_of-printable text leader size is =
    counted_codes (are_digits (length_place text)) (are_digits (base_place text)) (misfit text) text leader size refl is
