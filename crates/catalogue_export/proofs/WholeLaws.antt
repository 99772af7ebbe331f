-- The bytes that spell a record are a whole frame: the terminator at their end is their only one.
use Rattle.std.proofs.Common.{◌≡◌, ℕ, ◌+◌, ◌*◌, Bool, true, not, List, [], ◌∷◌, ◌++◌, length, append_assoc, refl, ◌∙◌, ap, arith}
use Rattle.std.proofs.lemmas.Bool.{and_parts, and_from}
use Rattle.std.proofs.lemmas.Bool.Decides.{nat_tests}
use Rattle.std.proofs.lemmas.List.Folds.{list_all-append}
use Rattle.std.specs.Char.{is_ascii_digit}
use Rattle.std.specs.List.{list_all, flat_map}
use Rattle.std.specs.Prelude.{◌==◌}
use Rattle.marc_leader.specs.Codes.{Codes, is_printable, are_printable}
use Rattle.marc_leader.specs.Numeral.{numeral}
use Rattle.marc_leader.proofs.Numerals.{are_digits-numeral}
use Rattle.union_base.specs.Fields.{is_tag, is_tag_byte, fits_tag, spelled}
use Rattle.union_base.specs.declared.field.Field.{Field}
use Rattle.marc_fields.specs.Rows.{ends_in_only}
use Rattle.marc_fields.specs.Shapes.{is_inner, ends_no_record}
use Rattle.marc_fields.specs.Spelling.{stored, entry_at, entries_from, entry_bytes, leader_bytes, frame_size, spelling}
use Rattle.marc_parts.specs.declared.marc_record.Record.{Record}
use Rattle.marc_fields.proofs.RowLaws.{ends-from}
use Rattle.marc_fields.proofs.ShapeLaws.{inner-spelled}

open_append : (xs ys : List ℕ) → ends_no_record xs ≡ true → ends_no_record ys ≡ true → ends_no_record (xs ++ ys) ≡ true
open_append xs ys one other = list_all-append (λ b. not (b == 0x1D)) xs ys ∙ and_from (ends_no_record xs) (ends_no_record ys) one other

open_from : (p : ℕ → Bool) → ((b : ℕ) → p b ≡ true → not (b == 0x1D) ≡ true) → (text : List ℕ) → list_all p text ≡ true → ends_no_record text ≡ true
open_from p each [] all = refl
open_from p each (b ∷ text) all =
    let both = and_parts (p b) (list_all p text) all in
    and_from (not (b == 0x1D)) (ends_no_record text) (each b both.0) (open_from p each text both.1)

open_digit : (b : ℕ) → is_ascii_digit b ≡ true → not (b == 0x1D) ≡ true
open_digit b is = grind (arith, nat_tests)

open_letter : (b : ℕ) → is_tag_byte b ≡ true → not (b == 0x1D) ≡ true
open_letter b is = grind (arith, nat_tests)

open_code : (b : ℕ) → is_printable b ≡ true → not (b == 0x1D) ≡ true
open_code b is = grind (arith, nat_tests)

open_numeral : (width n : ℕ) → ends_no_record (numeral width n) ≡ true
open_numeral width n = open_from is_ascii_digit open_digit (numeral width n) (are_digits-numeral width n)

open_leader : (size entries : ℕ) (c : Codes) → are_printable c ≡ true → ends_no_record (leader_bytes size entries c) ≡ true
unfolding leader_bytes
open_leader size entries c prints =
    let status = and_parts (is_printable c.status) _ prints in
    let kind = and_parts (is_printable c.kind) _ status.1 in
    let level = and_parts (is_printable c.level) _ kind.1 in
    let control = and_parts (is_printable c.control) _ level.1 in
    let coding = and_parts (is_printable c.coding) _ control.1 in
    let encoding = and_parts (is_printable c.encoding) _ coding.1 in
    let form = and_parts (is_printable c.form) _ encoding.1 in
    let last = and_parts (is_printable c.part) (is_printable c.last) form.1 in
    let front : List ℕ = c.status ∷ c.kind ∷ c.level ∷ c.control ∷ c.coding ∷ 50 ∷ 50 ∷ [] in
    let back : List ℕ = c.encoding ∷ c.form ∷ c.part ∷ 52 ∷ 53 ∷ 48 ∷ c.last ∷ [] in
    open_append ((numeral 5 size ++ front) ++ numeral 5 (25 + 12 * entries)) back
    (open_append (numeral 5 size ++ front) (numeral 5 (25 + 12 * entries))
    (open_append (numeral 5 size) front (open_numeral 5 size)
    (and_from _ _ (open_code c.status status.0) (and_from _ _ (open_code c.kind kind.0) (and_from _ _ (open_code c.level level.0)
    (and_from _ _ (open_code c.control control.0) (and_from _ _ (open_code c.coding coding.0) refl))))))
    (open_numeral 5 (25 + 12 * entries)))
    (and_from _ _ (open_code c.encoding encoding.0) (and_from _ _ (open_code c.form form.0) (and_from _ _ (open_code c.part last.0)
    (and_from _ true (open_code c.last last.1) refl))))

open_entry : (start : ℕ) (f : Field) → ends_no_record (entry_bytes (entry_at start f)) ≡ true
unfolding entry_bytes
open_entry start f =
    let tag = (and_parts (is_tag f.tag) (fits_tag f.tag f.body) f.well_formed).0 in
    open_append (f.tag ++ numeral 4 (length (stored f))) (numeral 5 start)
    (open_append f.tag (numeral 4 (length (stored f))) (open_from is_tag_byte open_letter f.tag (and_parts (length f.tag == 3) (list_all is_tag_byte f.tag) tag).1)
    (open_numeral 4 (length (stored f))))
    (open_numeral 5 start)

open_entries : (start : ℕ) (fields : List Field) → ends_no_record (flat_map entry_bytes (entries_from start fields)) ≡ true
open_entries start [] = refl
open_entries start (f ∷ fields) =
    open_append (entry_bytes (entry_at start f)) (flat_map entry_bytes (entries_from (start + length (stored f)) fields))
    (open_entry start f) (open_entries (start + length (stored f)) fields)

open_inner : (b : ℕ) → is_inner b ≡ true → not (b == 0x1D) ≡ true
open_inner b is = (and_parts (not (b == 0x1D)) (not (b == 0x1E)) is).0

open_data : (fields : List Field) → ends_no_record (flat_map stored fields) ≡ true
open_data [] = refl
open_data (f ∷ fields) =
    open_append (stored f) (flat_map stored fields)
    (open_append (spelled f.body) (0x1E ∷ []) (open_from is_inner open_inner (spelled f.body) (inner-spelled f)) refl) (open_data fields)

pub spelling-ends : (r : Record) → are_printable r.leader ≡ true → ends_in_only 0x1D (spelling r) ≡ true
unfolding spelling
spelling-ends r prints =
    let leader = leader_bytes (frame_size r) (length (entries_from 0 r.fields)) r.leader in
    let directory = flat_map entry_bytes (entries_from 0 r.fields) in
    let bytes = flat_map stored r.fields in
    ap (ends_in_only 0x1D) (regrouped leader directory (0x1E ∷ bytes) (0x1D ∷ []))
    ∙ ends-from 0x1D (leader ++ (directory ++ 0x1E ∷ bytes))
    (open_append leader (directory ++ 0x1E ∷ bytes) (open_leader (frame_size r) (length (entries_from 0 r.fields)) r.leader prints)
    (open_append directory (0x1E ∷ bytes) (open_entries 0 r.fields) (open_data r.fields)))
  where
    regrouped : (l d e z : List ℕ) → l ++ (d ++ (e ++ z)) ≡ (l ++ (d ++ e)) ++ z
    regrouped l d e z = simp append_assoc
