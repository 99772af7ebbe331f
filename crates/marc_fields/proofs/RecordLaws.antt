-- A frame spells one record, and the record that is read from it.
use Rattle.std.proofs.Common.{◌≡◌, ℕ, ◌+◌, ◌*◌, ◌≤◌, Bool, true, false, List, [], ◌∷◌, ◌++◌, length, drop, refl, sym, ◌∙◌, ap, subst, arith, length-append, append_assoc, Ok, None, Some}
use Rattle.std.proofs.lemmas.Bool.{and_parts, and_from}
use Rattle.std.proofs.lemmas.Bool.Decides.{nat_tests}
use Rattle.std.proofs.lemmas.List.{append_cancel_right, length-take}
use Rattle.std.specs.List.{flat_map, list_all}
use Rattle.std.specs.Prelude.{nat_le, if◌then◌else◌}
use Rattle.marc_leader.specs.Codes.{Codes, are_printable}
use Rattle.marc_leader.specs.Entry.{entry_of}
use Rattle.marc_leader.specs.declared.entry.Entry.{Entry}
use Rattle.union_base.specs.FieldLaws.{same_fields}
use Rattle.union_base.specs.Fields.{is_tag, fits_tag, spelled as body_bytes}
use Rattle.union_base.specs.declared.field.Field.{Field}
use Rattle.marc_parts.specs.declared.marc_record.Record.{Record}
use Rattle.marc_fields.specs.declared.encoding.EncodeRefusal.TheVariants.{FieldTooLong, RecordTooLong}
use Rattle.marc_fields.specs.Appending.{too_long}
use Rattle.marc_fields.specs.Spelling.{stored, entry_bytes, leader_bytes, is_short, frame_size, spelling, Spells, IsEntryOf, AreEntriesOf}
use Rattle.marc_fields.proofs.ReadingLaws.{IsHead, entry_of-entry_bytes, fronts_same, rests_same, head-one}
use Rattle.marc_fields.proofs.SpellingLaws.{length-tag, length-leader_bytes, length-entry_bytes, spelling-Spells}

-- the tag of an entry is its field's
pub entry_tag : (bytes : List ℕ) (e : Entry) (f : Field) → IsEntryOf bytes e f → is_tag e.tag ≡ true
entry_tag bytes e f is = subst (λ t. is_tag t ≡ true) (sym is.tag) (and_parts (is_tag f.tag) (fits_tag f.tag f.body) f.well_formed).0

pub entry_size : (bytes : List ℕ) (e : Entry) (f : Field) → IsEntryOf bytes e f → length (entry_bytes e) ≡ 12
entry_size bytes e f is = length-entry_bytes e (ap length is.tag ∙ length-tag f)

-- the directory of fields that lie in the data
pub length-entries : (bytes : List ℕ) (entries : List Entry) (fields : List Field) → AreEntriesOf bytes entries fields
    → length (flat_map entry_bytes entries) ≡ 12 * length entries
length-entries bytes [] [] are = refl
length-entries bytes [] (f ∷ fields) are = absurd are
length-entries bytes (e ∷ entries) [] are = absurd are
length-entries bytes (e ∷ entries) (f ∷ fields) are =
    omega (arith, entry_size bytes e f are.0, length-entries bytes entries fields are.1, length-append (entry_bytes e) (flat_map entry_bytes entries))

-- fields that lie in the data are short
pub are-short : (bytes : List ℕ) (entries : List Entry) (fields : List Field) → AreEntriesOf bytes entries fields → list_all is_short fields ≡ true
are-short bytes [] [] are = refl
are-short bytes [] (f ∷ fields) are = absurd are
are-short bytes (e ∷ entries) [] are = absurd are
are-short bytes (e ∷ entries) (f ∷ fields) are =
    let small : length (stored f) ≤ 9999 = omega (arith, are.0.short, ap length are.0.there, length-take e.length (drop e.start bytes)) in
    and_from (is_short f) (list_all is_short fields) (short_is (length (stored f)) small) (are-short bytes entries fields are.1)
  where
    short_is : (n : ℕ) → n ≤ 9999 → nat_le n 9999 ≡ true
    short_is n h = grind (arith, nat_tests)

-- entries that are spelled alike are the same
pub entries-one : (bytes : List ℕ) (entries others : List Entry) (fields gs : List Field) (x y bytes' : List ℕ) → length bytes ≤ 99999 → length bytes' ≤ 99999
    → AreEntriesOf bytes entries fields → AreEntriesOf bytes' others gs → length entries ≡ length others
    → flat_map entry_bytes entries ++ x ≡ flat_map entry_bytes others ++ y → entries ≡ others
entries-one bytes [] [] fields gs x y bytes' short short' are are' count same = refl
entries-one bytes [] (d ∷ others) fields gs x y bytes' short short' are are' count same = absurd (omega arith)
entries-one bytes (e ∷ entries) [] fields gs x y bytes' short short' are are' count same = absurd (omega arith)
entries-one bytes (e ∷ entries) (d ∷ others) [] gs x y bytes' short short' are are' count same = absurd are
entries-one bytes (e ∷ entries) (d ∷ others) (f ∷ fields) [] x y bytes' short short' are are' count same = absurd are'
entries-one bytes (e ∷ entries) (d ∷ others) (f ∷ fields) (g ∷ gs) x y bytes' short short' are are' count same =
    let again : entry_bytes e ++ (flat_map entry_bytes entries ++ x) ≡ entry_bytes d ++ (flat_map entry_bytes others ++ y)
    = sym (append_assoc (entry_bytes e) (flat_map entry_bytes entries) x) ∙ (same ∙ append_assoc (entry_bytes d) (flat_map entry_bytes others) y) in
    let sizes = entry_size bytes e f are.0 ∙ sym (entry_size bytes' d g are'.0) in
    let first : entry_bytes e ≡ entry_bytes d = fronts_same (entry_bytes e) (entry_bytes d) _ _ sizes again in
    let rest = rests_same (entry_bytes e) (entry_bytes d) _ _ sizes again in
    let near : e.start ≤ 99999 = omega (arith, are.0.inside) in
    let near' : d.start ≤ 99999 = omega (arith, are'.0.inside) in
    let both : Ok e ≡ Ok d = sym (entry_of-entry_bytes e (entry_tag bytes e f are.0) are.0.short near)
    ∙ (ap entry_of first ∙ entry_of-entry_bytes d (entry_tag bytes' d g are'.0) are'.0.short near') in
    let one : e ≡ d = cc in
    let count_less : length entries ≡ length others = omega arith in
    let others_same : entries ≡ others = entries-one bytes entries others fields gs x y bytes' short short' are.1 are'.1 count_less rest in
    cc

-- fields that lie at the same entries of the same data are the same
pub fields-one : (bytes : List ℕ) (entries : List Entry) (fields gs : List Field) → AreEntriesOf bytes entries fields → AreEntriesOf bytes entries gs → fields ≡ gs
fields-one bytes [] [] [] are are' = refl
fields-one bytes [] (f ∷ fields) gs are are' = absurd are
fields-one bytes [] [] (g ∷ gs) are are' = absurd are'
fields-one bytes (e ∷ entries) [] gs are are' = absurd are
fields-one bytes (e ∷ entries) (f ∷ fields) [] are are' = absurd are'
fields-one bytes (e ∷ entries) (f ∷ fields) (g ∷ gs) are are' =
    let text : body_bytes f.body ≡ body_bytes g.body
    = append_cancel_right (body_bytes f.body) (body_bytes g.body) (0x1E ∷ []) (sym are.0.there ∙ are'.0.there) in
    let one : f ≡ g = same_fields f g (sym are.0.tag ∙ are'.0.tag) text in
    let others : fields ≡ gs = fields-one bytes entries fields gs are.1 are'.1 in
    cc

-- what is after the leader of a frame that spells a record
abbrev pub behind_leader : List Entry → List ℕ → List ℕ
behind_leader entries bytes = flat_map entry_bytes entries ++ (0x1E ∷ (bytes ++ 0x1D ∷ []))

-- the bytes of a frame that spells a record
pub spelled-size : (frame : List ℕ) (r : Record) (s : Spells frame r) → length frame ≡ 26 + 12 * length s.entries + length s.bytes
spelled-size frame r s =
    let leader = leader_bytes (length frame) (length s.entries) r.leader in
    let directory = flat_map entry_bytes s.entries in
    omega (
      arith,
      ap length s.parts,
      length-leader_bytes (length frame) (length s.entries) r.leader,
      length-entries s.bytes s.entries r.fields s.fields,
      length-append leader (behind_leader s.entries s.bytes),
      length-append directory (0x1E ∷ (s.bytes ++ 0x1D ∷ [])),
      length-append s.bytes (0x1D ∷ []),
    )

-- a frame that spells a record has its head
pub spelled-head : (frame : List ℕ) (r : Record) (s : Spells frame r) → IsHead frame r.leader (length s.entries) (behind_leader s.entries s.bytes)
spelled-head frame r s = record {
  short = s.short;
  base = omega (arith, s.short, spelled-size frame r s);
  printable = s.codes;
  parts = s.parts;
}

-- a frame spells one record at most
pub Spells-one : (frame : List ℕ) (one other : Record) → Spells frame one → Spells frame other → one ≡ other
Spells-one frame one other s t =
    let heads = head-one frame one.leader other.leader (length s.entries) (length t.entries) _ _ (spelled-head frame one s) (spelled-head frame other t) in
    let short : length s.bytes ≤ 99999 = omega (arith, s.short, spelled-size frame one s) in
    let short' : length t.bytes ≤ 99999 = omega (arith, t.short, spelled-size frame other t) in
    let entries : s.entries ≡ t.entries = entries-one s.bytes s.entries t.entries one.fields other.fields _ _ t.bytes short short' s.fields t.fields heads.1 heads.2 in
    let sizes : length (flat_map entry_bytes s.entries) ≡ length (flat_map entry_bytes t.entries) = ap (λ es. length (flat_map entry_bytes es)) entries in
    let ends : 0x1E ∷ (s.bytes ++ 0x1D ∷ []) ≡ 0x1E ∷ (t.bytes ++ 0x1D ∷ []) = rests_same (flat_map entry_bytes s.entries) (flat_map entry_bytes t.entries) _ _ sizes heads.2 in
    let tails : s.bytes ++ 0x1D ∷ [] ≡ t.bytes ++ 0x1D ∷ [] = cc in
    let bytes : s.bytes ≡ t.bytes = append_cancel_right s.bytes t.bytes (0x1D ∷ []) tails in
    let At : List ℕ → List Entry → Type 0 = λ b es. AreEntriesOf b es other.fields in
    let fields : one.fields ≡ other.fields
    = fields-one s.bytes s.entries one.fields other.fields s.fields (subst (λ b. At b s.entries) (sym bytes) (subst (λ es. At t.bytes es) (sym entries) t.fields)) in
    let Of : Codes → List Field → Record = λ c fs. record { leader = c; fields = fs } in
    ap (λ c. Of c one.fields) heads.0 ∙ ap (λ fs. Of other.leader fs) fields

-- a record that is not too long is within the limits
within : (fields size : Bool) → (if fields then (if size then None else Some RecordTooLong) else Some FieldTooLong) ≡ None → (fields ≡ true) × (size ≡ true)
within true true is = (refl, refl)
within true false is = cc
within false size is = cc

pub spelling-IsSpelled : (r : Record) → are_printable r.leader ≡ true → too_long r ≡ None → Spells (spelling r) r
spelling-IsSpelled r codes fits =
    let both = within (list_all is_short r.fields) (nat_le (frame_size r) 99999) fits in
    spelling-Spells r codes both.0 (small (frame_size r) both.1)
  where
    small : (n : ℕ) → nat_le n 99999 ≡ true → n ≤ 99999
    small n h = grind (arith, nat_tests)
