-- A frame that spells a record breaks no rule.
use Rattle.std.proofs.Common.{◌≡◌, ℕ, zero, suc, ◌+◌, ◌-◌, ◌*◌, ◌/◌, ◌%◌, ◌<◌, ◌≤◌, Bool, true, false, not, ◌&&◌, ◌||◌, List, [], ◌∷◌, ◌++◌, length, get_or, take, drop, map, refl, sym, ◌∙◌, ap, arith, append_assoc, length-append, length-drop, None, Some}
use Rattle.std.proofs.Math.Seq.{take-append_seam, drop-append_seam, get_or-append_seam}
use Rattle.std.proofs.lemmas.Bool.{and_parts, and_from}
use Rattle.std.proofs.lemmas.Bool.Decides.{nat_tests}
use Rattle.std.proofs.lemmas.List.{take-take, length-take}
use Rattle.std.specs.List.{list_all, flat_map}
use Rattle.std.specs.Prelude.{◌==◌, nat_le, nat_lt, if◌then◌else◌, Option, Result, Ok, Err}
use Rattle.marc_leader.specs.Leader.{misfit, length_place, base_place}
use Rattle.marc_leader.specs.Numeral.{are_digits}
use Rattle.marc_leader.specs.declared.entry.Entry.{Entry}
use Rattle.marc_leader.specs.declared.leader.Leader.{Leader}
use Rattle.union_base.specs.Fields.{is_control_tag, spelled as body_bytes}
use Rattle.union_base.specs.declared.field.Field.{Field}
use Rattle.marc_parts.specs.declared.marc_record.Record.{Record}
use Rattle.marc_fields.specs.declared.decoding.DecodeRefusal.{DecodeRefusal}
use Rattle.marc_fields.specs.declared.decoding.DecodeRefusal.TheVariants.{Rule as RuleRefusal, Memory}
use Rattle.marc_fields.specs.declared.rules.Failure.{Failure}
use Rattle.marc_fields.specs.Refusals.{RefusesUnspelled}
use Rattle.marc_fields.specs.declared.rules.Rule.TheVariants.{LeaderCounts}
use Rattle.marc_fields.specs.Rows.{least_where_not, ends_in_only, any_from, all_from, fails, Answers}
use Rattle.marc_fields.specs.Rules.{leader_of_frame, base_in, base_of, is_base, has_base, head_failure, leader_failure, entry_in, entry_texts, texts_of, data_in, has_digits, has_tag, directory_failure, is_tile, is_owned, shares, tiling_from, tiling_failure, range_of, text_of, is_control_shaped, is_data_shaped, shape_failure, first_failure}
use Rattle.marc_fields.specs.Shapes.{are_inner, is_inner, has_shape, has_control_shape, has_data_shape}
use Rattle.marc_fields.specs.Spelling.{is_in, owners, entry_bytes, leader_bytes, Spells, IsEntryOf, AreEntriesOf}
use Rattle.marc_fields.proofs.DecodingLaws.{leader_cases}
use Rattle.marc_fields.proofs.DirectoryLaws.{least-later, entry-read}
use Rattle.marc_fields.proofs.FrontLaws.{leader_of-counted, leader_of-numbers, leader_failure-counts}
use Rattle.marc_fields.proofs.ReadingLaws.{entry_of-entry_bytes, leader_of-head}
use Rattle.marc_fields.proofs.RecordLaws.{entry_tag, entry_size, length-entries, behind_leader, spelled-size, spelled-head}
use Rattle.marc_fields.proofs.RowLaws.{ends-from}
use Rattle.marc_fields.proofs.ShapeLaws.{has_shape-spelled, inner-spelled}
use Rattle.marc_fields.proofs.SpellingLaws.{length-leader_bytes}
use Rattle.marc_fields.proofs.TilingLaws.{unowned, owned, tiling_failure-none}

le_is : (m n : ℕ) → m ≤ n → nat_le m n ≡ true
le_is m n h = grind (arith, nat_tests)

eq_is : (m n : ℕ) → m ≡ n → (m == n) ≡ true
eq_is m n h = grind (arith, nat_tests)

-- the byte before the data
before-data : (frame : List ℕ) (r : Record) (s : Spells frame r) → get_or frame (24 + 12 * length s.entries) 0 ≡ 0x1E
before-data frame r s =
    let leader = leader_bytes (length frame) (length s.entries) r.leader in
    let directory = flat_map entry_bytes s.entries in
    let size : length (leader ++ directory) ≡ 24 + 12 * length s.entries
    = omega (arith, length-append leader directory, length-leader_bytes (length frame) (length s.entries) r.leader, length-entries s.bytes s.entries r.fields s.fields) in
    let parts : frame ≡ (leader ++ directory) ++ (0x1E ∷ (s.bytes ++ 0x1D ∷ [])) = s.parts ∙ sym (append_assoc leader directory _) in
    ap (λ n. get_or frame n 0) (sym size) ∙ (ap (λ t. get_or t (length (leader ++ directory)) 0) parts
    ∙ get_or-append_seam (leader ++ directory) 0x1E (s.bytes ++ 0x1D ∷ []) 0)

-- a base address
is_base-from : (frame : List ℕ) (n : ℕ) → 25 + 12 * n + 1 ≤ length frame → get_or frame (24 + 12 * n) 0 ≡ 0x1E → is_base (25 + 12 * n) frame ≡ true
is_base-from frame n room ends =
    let place : 25 + 12 * n - 1 ≡ 24 + 12 * n = omega arith in
    and_from _ _ (and_from _ _ (le_is 25 (25 + 12 * n) (omega arith)) (le_is (25 + 12 * n) (length frame - 1) (omega arith)))
    (and_from _ _ (eq_is ((25 + 12 * n - 25) % 12) 0 (omega arith))
    (eq_is (get_or frame (25 + 12 * n - 1) 0) 0x1E (ap (λ k. get_or frame k 0) place ∙ ends)))

-- the leader of a spelled frame
spelled-base : (frame : List ℕ) (r : Record) (s : Spells frame r)
    → (head_failure frame ≡ None) × (base_of frame ≡ 25 + 12 * length s.entries)
unfolding head_failure
spelled-base frame r s =
    let n = length s.entries in
    let t = leader_of_frame frame in
    let size = spelled-size frame r s in
    let read = leader_of-head frame r.leader n (behind_leader s.entries s.bytes) (spelled-head frame r s) in
    let say : Leader = record { length = length frame; base = 25 + 12 * n; codes = r.leader } in
    let parts = leader_cases (are_digits (length_place t)) (are_digits (base_place t)) (misfit t) t say read in
    let numbers = leader_of-numbers (misfit t) t say (sym (leader_of-counted t parts.0 parts.1) ∙ read) in
    let long : nat_le 26 (length frame) ≡ true = le_is 26 (length frame) (omega (arith, size)) in
    let base : 25 + 12 * n ≡ base_in t = ap (λ (l : Leader). l.base) numbers in
    let is = ap (λ b. is_base b frame) (sym base) ∙ is_base-from frame n (omega (arith, size)) (before-data frame r s) in
    let based : has_base t frame ≡ true = and_from _ _ parts.1 is in
    let none : leader_failure t frame ≡ None
    = leader_failure-counts t frame (length frame) parts.0 (ap (λ (l : Leader). l.length) numbers) refl based ∙ ap (fails LeaderCounts) parts.2 in
    (rw long none, sym base)

-- an entry that was spelled is read
entry-back : (bytes : List ℕ) (e : Entry) (f : Field) → length bytes ≤ 99999 → IsEntryOf bytes e f
    → (has_digits (entry_bytes e) ≡ true) × (has_tag (entry_bytes e) ≡ true) × (e ≡ entry_in (entry_bytes e))
entry-back bytes e f short is =
    entry-read (entry_bytes e) e (sym (entry_of-entry_bytes e (entry_tag bytes e f is) is.short (omega (arith, is.inside))))

-- and so is a directory
texts-back : (bytes : List ℕ) (entries : List Entry) (fields : List Field) → AreEntriesOf bytes entries fields
    → entry_texts (length entries) (flat_map entry_bytes entries) ≡ map entry_bytes entries
texts-back bytes [] fields are = refl
texts-back bytes (e ∷ entries) [] are = absurd are
texts-back bytes (e ∷ entries) (f ∷ fields) are =
    let size = entry_size bytes e f are.0 in
    let rest = flat_map entry_bytes entries in
    let front : take 12 (entry_bytes e ++ rest) ≡ entry_bytes e = ap (λ n. take n (entry_bytes e ++ rest)) (sym size) ∙ take-append_seam (entry_bytes e) rest in
    let back : drop 12 (entry_bytes e ++ rest) ≡ rest = ap (λ n. drop n (entry_bytes e ++ rest)) (sym size) ∙ drop-append_seam (entry_bytes e) rest in
    ap (λ t. t ∷ entry_texts (length entries) (drop 12 (entry_bytes e ++ rest))) front
    ∙ (ap (λ t. entry_bytes e ∷ entry_texts (length entries) t) back ∙ ap (λ ts. entry_bytes e ∷ ts) (texts-back bytes entries fields are.1))

digits-none : (bytes : List ℕ) (i : ℕ) (entries : List Entry) (fields : List Field) → length bytes ≤ 99999 → AreEntriesOf bytes entries fields
    → least_where_not has_digits i (map entry_bytes entries) ≡ None
digits-none bytes i [] fields short are = refl
digits-none bytes i (e ∷ entries) [] short are = absurd are
digits-none bytes i (e ∷ entries) (f ∷ fields) short are =
    least-later has_digits i (entry_bytes e) (map entry_bytes entries) (entry-back bytes e f short are.0).0 ∙ digits-none bytes (suc i) entries fields short are.1

tags-none : (bytes : List ℕ) (i : ℕ) (entries : List Entry) (fields : List Field) → length bytes ≤ 99999 → AreEntriesOf bytes entries fields
    → least_where_not has_tag i (map entry_bytes entries) ≡ None
tags-none bytes i [] fields short are = refl
tags-none bytes i (e ∷ entries) [] short are = absurd are
tags-none bytes i (e ∷ entries) (f ∷ fields) short are =
    least-later has_tag i (entry_bytes e) (map entry_bytes entries) (entry-back bytes e f short are.0).1 ∙ tags-none bytes (suc i) entries fields short are.1

entries-back : (bytes : List ℕ) (entries : List Entry) (fields : List Field) → length bytes ≤ 99999 → AreEntriesOf bytes entries fields
    → map entry_in (map entry_bytes entries) ≡ entries
entries-back bytes [] fields short are = refl
entries-back bytes (e ∷ entries) [] short are = absurd are
entries-back bytes (e ∷ entries) (f ∷ fields) short are =
    ap (λ x. x ∷ map entry_in (map entry_bytes entries)) (sym (entry-back bytes e f short are.0).2)
    ∙ ap (λ es. e ∷ es) (entries-back bytes entries fields short are.1)

directory-none : (bytes : List ℕ) (entries : List Entry) (fields : List Field) → length bytes ≤ 99999 → AreEntriesOf bytes entries fields
    → directory_failure (map entry_bytes entries) ≡ None
unfolding directory_failure
directory-none bytes entries fields short are =
    rw (digits-none bytes 1 entries fields short are, tags-none bytes 1 entries fields short are) refl

-- a field's bytes have no terminator
no_terminator : (t : List ℕ) → are_inner t ≡ true → list_all (λ b. not (b == 0x1E)) t ≡ true
no_terminator [] inner = refl
no_terminator (b ∷ t) inner =
    let both = and_parts (is_inner b) (are_inner t) inner in
    and_from _ _ (and_parts (not (b == 0x1D)) (not (b == 0x1E)) both.0).1 (no_terminator t both.1)

tile-from : (bytes : List ℕ) (e : Entry) (f : Field) → IsEntryOf bytes e f → is_tile bytes e ≡ true
tile-from bytes e f is =
    and_from _ _ (le_is (e.start + e.length) (length bytes) is.inside)
    (ap (ends_in_only 0x1E) is.there ∙ ends-from 0x1E (body_bytes f.body) (no_terminator (body_bytes f.body) (inner-spelled f)))

owners-append : (at : ℕ) (xs ys : List Entry) → owners at (xs ++ ys) ≡ owners at xs + owners at ys
owners-append at [] ys = omega arith
owners-append at (x ∷ xs) ys = omega (arith, owners-append at xs ys)

any_from-false : (p : ℕ → Bool) (start n : ℕ) → ((k : ℕ) → start ≤ k → k < start + n → p k ≡ false) → any_from p start n ≡ false
any_from-false p start zero none = refl
any_from-false p start (suc n) none =
    rw (none start (omega arith) (omega arith), any_from-false p (suc start) n (λ k low high. none k (omega arith) (omega arith))) refl

all_from-true : (p : ℕ → Bool) (start n : ℕ) → ((k : ℕ) → start ≤ k → k < start + n → p k ≡ true) → all_from p start n ≡ true
all_from-true p start zero each = refl
all_from-true p start (suc n) each =
    and_from _ _ (each start (omega arith) (omega arith)) (all_from-true p (suc start) n (λ k low high. each k (omega arith) (omega arith)))

-- a byte of one entry's range has no other owner
apart : (bytes : List ℕ) (earlier entries : List Entry) (e : Entry) → e.start + e.length ≤ length bytes
    → ((at : ℕ) → at < length bytes → owners at (earlier ++ (e ∷ entries)) ≡ 1) → shares earlier e ≡ false
apart bytes earlier entries e inside once = any_from-false (is_owned earlier) e.start e.length (λ k low high. of k low high (is_owned earlier k) refl)
  where
    lt_is : (m n : ℕ) → m < n → nat_lt m n ≡ true
    lt_is m n h = grind (arith, nat_tests)

    of : (k : ℕ) → e.start ≤ k → k < e.start + e.length → (test : Bool) → is_owned earlier k ≡ test → test ≡ false
    of k low high false is = refl
    of k low high true is =
        let some = owned k earlier is in
        let here : is_in k e ≡ true = and_from _ _ (le_is e.start k low) (lt_is k (e.start + e.length) high) in
        let mine : owners k (e ∷ entries) ≡ 1 + owners k entries = rw here refl in
        absurd (omega (arith, owners-append k earlier (e ∷ entries), once k (omega arith), mine, some))

tiling-none-from : (bytes : List ℕ) (earlier : List Entry) (i : ℕ) (entries : List Entry) (fields : List Field) → AreEntriesOf bytes entries fields
    → ((at : ℕ) → at < length bytes → owners at (earlier ++ entries) ≡ 1) → tiling_from bytes earlier i entries ≡ None
tiling-none-from bytes earlier i [] fields are once = refl
tiling-none-from bytes earlier i (e ∷ entries) [] are once = absurd are
tiling-none-from bytes earlier i (e ∷ entries) (f ∷ fields) are once =
    let test : (is_tile bytes e && not (shares earlier e)) ≡ true
    = and_from _ _ (tile-from bytes e f are.0) (ap not (apart bytes earlier entries e are.0.inside once)) in
    rw test (tiling-none-from bytes (earlier ++ e ∷ []) (suc i) entries fields are.1
    (λ at below. ap (owners at) (append_assoc earlier (e ∷ []) entries) ∙ once at below))

some-owned : (at : ℕ) (entries : List Entry) → owners at entries ≡ 1 → is_owned entries at ≡ true
some-owned at entries one = of (is_owned entries at) refl
  where
    of : (test : Bool) → is_owned entries at ≡ test → test ≡ true
    of true is = refl
    of false is = absurd (omega (arith, unowned at entries is, one))

tiling-none-spelled : (bytes : List ℕ) (entries : List Entry) (fields : List Field) → AreEntriesOf bytes entries fields
    → ((at : ℕ) → at < length bytes → owners at entries ≡ 1) → tiling_failure bytes entries ≡ None
tiling-none-spelled bytes entries fields are once =
    tiling_failure-none bytes entries (tiling-none-from bytes [] 1 entries fields are once)
    (all_from-true (is_owned entries) 0 (length bytes) (λ k low high. some-owned k entries (once k (omega arith))))

-- the text of a field that lies at its entry
pub text-spelled : (bytes : List ℕ) (e : Entry) (f : Field) → IsEntryOf bytes e f → text_of bytes e ≡ body_bytes f.body
text-spelled bytes e f is =
    let t = body_bytes f.body in
    let size : length (range_of bytes e) ≡ length t + 1 = ap length is.there ∙ length-append t (0x1E ∷ []) in
    let inside : e.length ≤ length (drop e.start bytes) = omega (arith, length-drop e.start bytes, is.inside) in
    let whole : e.length ≡ length t + 1 = omega (arith, length-take e.length (drop e.start bytes), size, inside) in
    let less : e.length - 1 ≡ length t = omega (arith, whole) in
    sym (take-take (e.length - 1) e.length (drop e.start bytes) (omega arith))
    ∙ (ap (take (e.length - 1)) is.there ∙ (ap (λ n. take n (t ++ 0x1E ∷ [])) less ∙ take-append_seam t (0x1E ∷ [])))

shape_both : (control c d : Bool) → (if control then c else d) ≡ true → ((not control || c) ≡ true) × ((control || d) ≡ true)
shape_both true c d h = (h, refl)
shape_both false c d h = (refl, h)

shaped-both : (bytes : List ℕ) (e : Entry) (f : Field) → IsEntryOf bytes e f → (is_control_shaped bytes e ≡ true) × (is_data_shaped bytes e ≡ true)
shaped-both bytes e f is =
    let shape : has_shape e.tag (text_of bytes e) ≡ true
    = ap (λ t. has_shape t (text_of bytes e)) is.tag ∙ (ap (has_shape f.tag) (text-spelled bytes e f is) ∙ has_shape-spelled f) in
    shape_both (is_control_tag e.tag) (has_control_shape (text_of bytes e)) (has_data_shape (text_of bytes e)) shape

control-none : (bytes : List ℕ) (i : ℕ) (entries : List Entry) (fields : List Field) → AreEntriesOf bytes entries fields
    → least_where_not (is_control_shaped bytes) i entries ≡ None
control-none bytes i [] fields are = refl
control-none bytes i (e ∷ entries) [] are = absurd are
control-none bytes i (e ∷ entries) (f ∷ fields) are =
    least-later (is_control_shaped bytes) i e entries (shaped-both bytes e f are.0).0 ∙ control-none bytes (suc i) entries fields are.1

data-none : (bytes : List ℕ) (i : ℕ) (entries : List Entry) (fields : List Field) → AreEntriesOf bytes entries fields
    → least_where_not (is_data_shaped bytes) i entries ≡ None
data-none bytes i [] fields are = refl
data-none bytes i (e ∷ entries) [] are = absurd are
data-none bytes i (e ∷ entries) (f ∷ fields) are =
    least-later (is_data_shaped bytes) i e entries (shaped-both bytes e f are.0).1 ∙ data-none bytes (suc i) entries fields are.1

shape-none : (bytes : List ℕ) (entries : List Entry) (fields : List Field) → AreEntriesOf bytes entries fields → shape_failure bytes entries ≡ None
unfolding shape_failure
shape-none bytes entries fields are = rw (control-none bytes 1 entries fields are, data-none bytes 1 entries fields are) refl

-- the directory and the data of a spelled frame
spelled-texts : (frame : List ℕ) (r : Record) (s : Spells frame r) → texts_of frame ≡ map entry_bytes s.entries
spelled-texts frame r s =
    let n = length s.entries in
    let base = (spelled-base frame r s).1 in
    let leader = leader_bytes (length frame) n r.leader in
    let directory = flat_map entry_bytes s.entries in
    let behind : drop 24 frame ≡ behind_leader s.entries s.bytes
    = ap (drop 24) s.parts ∙ (ap (λ k. drop k (leader ++ behind_leader s.entries s.bytes)) (sym (length-leader_bytes (length frame) n r.leader))
    ∙ drop-append_seam leader (behind_leader s.entries s.bytes)) in
    let size : base_of frame - 25 ≡ length directory = omega (arith, base, length-entries s.bytes s.entries r.fields s.fields) in
    let count : (base_of frame - 25) / 12 ≡ n = omega (arith, base) in
    let front : take (base_of frame - 25) (drop 24 frame) ≡ directory
    = ap (take (base_of frame - 25)) behind ∙ (ap (λ k. take k (behind_leader s.entries s.bytes)) size ∙ take-append_seam directory _) in
    ap (entry_texts ((base_of frame - 25) / 12)) front ∙ (ap (λ k. entry_texts k directory) count ∙ texts-back s.bytes s.entries r.fields s.fields)

pub spelled-data : (frame : List ℕ) (r : Record) (s : Spells frame r) → data_in frame ≡ s.bytes
spelled-data frame r s =
    let n = length s.entries in
    let base = (spelled-base frame r s).1 in
    let leader = leader_bytes (length frame) n r.leader in
    let directory = flat_map entry_bytes s.entries in
    let front = leader ++ (directory ++ 0x1E ∷ []) in
    let end = s.bytes ++ 0x1D ∷ [] in
    let parts : frame ≡ front ++ end
    = s.parts ∙ (ap (λ t. leader ++ t) (sym (append_assoc directory (0x1E ∷ []) end)) ∙ sym (append_assoc leader (directory ++ 0x1E ∷ []) end)) in
    let size : length front ≡ base_of frame
    = omega (
      arith,
      base,
      length-append leader (directory ++ 0x1E ∷ []),
      length-append directory (0x1E ∷ []),
      length-leader_bytes (length frame) n r.leader,
      length-entries s.bytes s.entries r.fields s.fields,
    ) in
    let behind : drop (base_of frame) frame ≡ end
    = ap (λ k. drop k frame) (sym size) ∙ (ap (drop (length front)) parts ∙ drop-append_seam front end) in
    let left : length frame - 1 - base_of frame ≡ length s.bytes = omega (arith, base, spelled-size frame r s) in
    ap (take (length frame - 1 - base_of frame)) behind ∙ (ap (λ k. take k end) left ∙ take-append_seam s.bytes (0x1D ∷ []))

-- the entries of a spelled frame
pub spelled-entries : (frame : List ℕ) (r : Record) (s : Spells frame r) → map entry_in (texts_of frame) ≡ s.entries
spelled-entries frame r s =
    let short : length s.bytes ≤ 99999 = omega (arith, s.short, spelled-size frame r s) in
    ap (map entry_in) (spelled-texts frame r s) ∙ entries-back s.bytes s.entries r.fields short s.fields

-- a frame that spells a record breaks none of the rules
pub spelled-no_failure : (frame : List ℕ) (r : Record) → Spells frame r → first_failure frame ≡ None
unfolding first_failure
spelled-no_failure frame r s =
    let short : length s.bytes ≤ 99999 = omega (arith, s.short, spelled-size frame r s) in
    let entries = spelled-entries frame r s in
    let directory : directory_failure (texts_of frame) ≡ None
    = ap directory_failure (spelled-texts frame r s) ∙ directory-none s.bytes s.entries r.fields short s.fields in
    let tiling : tiling_failure (data_in frame) (map entry_in (texts_of frame)) ≡ None
    = ap (λ b. tiling_failure b (map entry_in (texts_of frame))) (spelled-data frame r s) ∙ (ap (tiling_failure s.bytes) entries ∙ tiling-none-spelled s.bytes s.entries r.fields s.fields s.partition) in
    let shape : shape_failure (data_in frame) (map entry_in (texts_of frame)) ≡ None
    = ap (λ b. shape_failure b (map entry_in (texts_of frame))) (spelled-data frame r s) ∙ (ap (shape_failure s.bytes) entries ∙ shape-none s.bytes s.entries r.fields s.fields) in
    rw ((spelled-base frame r s).0, directory, tiling, shape) refl

-- what names the first failure names one only where the frame spells no record
pub refuses-unspelled : (result : Result Record DecodeRefusal) (frame : List ℕ) → Answers result (first_failure frame) (λ found. Spells frame found)
    → RefusesUnspelled result frame
refuses-unspelled (Ok r) frame answers = answers.1
refuses-unspelled (Err (RuleRefusal rule place)) frame names = λ r spells. none_some _ (first_failure frame) (spelled-no_failure frame r spells) names
  where
    none_some : (failure : Failure) (o : Option Failure) → o ≡ None → o ≡ Some failure → ⊥
    none_some failure o p q = cc
refuses-unspelled (Err Memory) frame names = tt
