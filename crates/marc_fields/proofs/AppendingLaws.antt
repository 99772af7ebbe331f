-- What is appended piece by piece.
use Rattle.std.proofs.Common.{◌≡◌, ℕ, ◌+◌, ◌<◌, ◌≤◌, Bool, true, List, [], ◌∷◌, ◌++◌, length, take, map, get_or, zero, suc, zero-add, refl, sym, ◌∙◌, ap, arith, append_assoc, length-append, add-zero, add-one, Result, Ok, Err}
use Rattle.std.proofs.Math.Seq.{take-append_seam, take-length, take-suc}
use Rattle.std.proofs.lemmas.Bool.{and_parts}
use Rattle.std.proofs.lemmas.Bool.Decides.{nat_tests}
use Rattle.std.proofs.lemmas.Grind.{flat_map-append}
use Rattle.std.proofs.lemmas.List.{take-take, append-nil, get_or-map, length-map}
use Rattle.std.specs.List.{flat_map, list_all}
use Rattle.std.specs.Prelude.{if◌then◌else◌, is_ok, IsErr}
use Rattle.marc_leader.specs.declared.entry.Entry.{Entry}
use Rattle.union_base.specs.declared.field.Field.{Field}
use Rattle.marc_fields.specs.Appending.{Appends}
use Rattle.union_base.specs.Fields.{spelled, field_terminator}
use Rattle.marc_fields.specs.Spelling.{stored, is_short, entry_at, entries_from, entry_bytes}

-- one piece, appended whole or not at all
pub Appends-extended : {T E : Type 0} (answer : Result T E) (old new text piece : List ℕ)
    → piece ≡ text → new ≡ (if is_ok answer then old ++ piece else old) → Appends answer old new text
Appends-extended (Ok x) old new text piece same is = is ∙ ap (λ p. old ++ p) same
Appends-extended (Err e) old new text piece same is = rw is (take-length old)

-- a piece of several was not appended
pub Appends-refused : {T E : Type 0} (answer : Result T E) (old new text : List ℕ)
    → IsErr answer → take (length old) new ≡ old → Appends answer old new text
Appends-refused (Ok x) old new text err kept = cc
Appends-refused (Err e) old new text err kept = kept

-- a frame appended piece by piece
pub Appends-frame : {T E : Type 0} (answer : Result T E) (old a b c d new leader directory bytes : List ℕ)
    → a ≡ old ++ leader → b ≡ a ++ directory → c ≡ b ++ 0x1E ∷ [] → d ≡ c ++ bytes → new ≡ (if is_ok answer then d ++ 0x1D ∷ [] else d)
    → Appends answer old new (leader ++ (directory ++ (0x1E ∷ (bytes ++ 0x1D ∷ []))))
Appends-frame (Ok x) old a b c d new leader directory bytes p q r s t = t ∙ rw (s, r, q, p) (simp append_assoc)
Appends-frame (Err e) old a b c d new leader directory bytes p q r s t =
    let whole : d ≡ old ++ (leader ++ (directory ++ (0x1E ∷ bytes))) = rw (s, r, q, p) (simp append_assoc) in
    rw (t, whole) (take-append_seam old _)

-- what stood before the first of two pieces is still a prefix where the second was not appended
pub front_kept : (old middle new text : List ℕ) → middle ≡ old ++ text → take (length middle) new ≡ middle → take (length old) new ≡ old
front_kept old middle new text is kept =
    let short : length old ≤ length middle = rw is (omega (arith, length-append old text)) in
    sym (take-take (length old) (length middle) new short) ∙ (ap (take (length old)) kept ∙ (ap (take (length old)) is ∙ take-append_seam old text))

-- one more field, and its entry
pub entries_from-push : (start : ℕ) (fields : List Field) (f : Field)
    → entries_from start (fields ++ f ∷ []) ≡ entries_from start fields ++ entry_at (start + length (flat_map stored fields)) f ∷ []
entries_from-push start [] f = rw add-zero refl
entries_from-push start (g ∷ fields) f =
    let later = entries_from-push (start + length (stored g)) fields f in
    let size : start + length (stored g ++ flat_map stored fields) ≡ start + length (stored g) + length (flat_map stored fields)
    = omega (arith, length-append (stored g) (flat_map stored fields)) in
    rw size (ap (λ entries. entry_at start g ∷ entries) later)

-- what each element passes, the one at a place passes
pub list_all-at : {A : Type 0} (p : A → Bool) (xs : List A) (i : ℕ) (x : A) → list_all p xs ≡ true → i < length xs
    → x ≡ get_or xs i x → p x ≡ true
list_all-at p [] i x all below is = absurd (omega arith)
list_all-at p (y ∷ xs) zero x all below is = ap p is ∙ (and_parts (p y) (list_all p xs) all).0
list_all-at p (y ∷ xs) (suc i) x all below is =
    let less : i < length xs = omega arith in
    list_all-at p xs i x (and_parts (p y) (list_all p xs) all).1 less is

-- a field's bytes and its terminator
pub length-stored : (f : Field) → length (stored f) ≡ length (spelled f.body) + 1
length-stored f = length-append (spelled f.body) (field_terminator ∷ [])

-- where all fields are short, the one at a place is
pub short-at : (fields : List Field) (i : ℕ) (f : Field) → list_all is_short fields ≡ true → i < length fields → f ≡ get_or fields i f
    → length (stored f) ≤ 9999
short-at fields i f all below is =
    let short : is_short f ≡ true = list_all-at is_short fields i f all below is in
    grind (arith, nat_tests, short)

-- what is seen of the element at a place
pub seen-at : {X Y : Type 0} (h : X → Y) (xs : List X) (i : ℕ) (x : X) (y : Y) → i < length xs → x ≡ get_or xs i x → y ≡ h x
    → y ≡ get_or (map h xs) i y
seen-at h xs i x y below is seen = seen ∙ (ap h is ∙ sym (get_or-map h xs i x y below))

pub seen-below : {X Y : Type 0} (h : X → Y) (xs : List X) (i : ℕ) → i < length xs → i < length (map h xs)
seen-below h xs i below = rw (length-map xs h) below

-- the elements up to a place, and the one there
pub take_one_more : {A : Type 0} (xs : List A) (i : ℕ) (x : A) → i < length xs → x ≡ get_or xs i x
    → take (i + 1) xs ≡ take i xs ++ x ∷ []
take_one_more xs i x below is = rw (add-one, take-suc xs i x below) (ap (λ y. take i xs ++ y ∷ []) (sym is))

-- the bytes of one more field
pub data-more : (fields : List Field) (i : ℕ) (f : Field) → i < length fields → f ≡ get_or fields i f
    → flat_map stored (take (i + 1) fields) ≡ flat_map stored (take i fields) ++ stored f
data-more fields i f below is =
    ap (flat_map stored) (take_one_more fields i f below is)
    ∙ (flat_map-append stored (take i fields) (f ∷ []) ∙ ap (λ t. flat_map stored (take i fields) ++ t) (append-nil (stored f)))

-- the entry of one field after others
pub directory-push : (fields : List Field) (f : Field)
    → flat_map entry_bytes (entries_from 0 (fields ++ f ∷ []))
    ≡ flat_map entry_bytes (entries_from 0 fields) ++ entry_bytes (entry_at (length (flat_map stored fields)) f)
directory-push fields f =
    ap (flat_map entry_bytes) (entries_from-push 0 fields f)
    ∙ (flat_map-append entry_bytes (entries_from 0 fields) _
    ∙ (rw (append-nil, zero-add) refl))

-- the entry of one more field
pub directory-more : (fields : List Field) (i : ℕ) (f : Field) → i < length fields → f ≡ get_or fields i f
    → flat_map entry_bytes (entries_from 0 (take (i + 1) fields))
    ≡ flat_map entry_bytes (entries_from 0 (take i fields)) ++ entry_bytes (entry_at (length (flat_map stored (take i fields))) f)
directory-more fields i f below is =
    ap (λ fs. flat_map entry_bytes (entries_from 0 fs)) (take_one_more fields i f below is) ∙ directory-push (take i fields) f

-- one more entry appended
pub directory-appended : (fields : List Field) (i : ℕ) (f : Field) (old middle new : List ℕ) (size start : ℕ)
    → i < length fields → f ≡ get_or fields i f → size ≡ length (stored f) → start ≡ length (flat_map stored (take i fields))
    → middle ≡ old ++ flat_map entry_bytes (entries_from 0 (take i fields))
    → new ≡ middle ++ entry_bytes (record { tag = f.tag; length = size; start = start })
    → new ≡ old ++ flat_map entry_bytes (entries_from 0 (take (i + 1) fields))
directory-appended fields i f old middle new size start below is s t m n =
    let e1 : entry_bytes (record { tag = f.tag; length = size; start = start }) ≡ entry_bytes (record { tag = f.tag; length = length (stored f); start = start })
    = ap (λ k. let e : Entry = record { tag = f.tag; length = k; start = start } in entry_bytes e) s in
    let e2 : entry_bytes (record { tag = f.tag; length = length (stored f); start = start }) ≡ entry_bytes (entry_at (length (flat_map stored (take i fields))) f)
    = ap (λ k. entry_bytes (entry_at k f)) t in
    n ∙ (ap (λ x. x ++ entry_bytes (record { tag = f.tag; length = size; start = start })) m
    ∙ (append_assoc old (flat_map entry_bytes (entries_from 0 (take i fields))) _
    ∙ ap (λ x. old ++ x) (ap (λ x. flat_map entry_bytes (entries_from 0 (take i fields)) ++ x) (e1 ∙ e2) ∙ sym (directory-more fields i f below is))))

-- there is an entry for each field
pub length-entries_from : (start : ℕ) (fields : List Field) → length (entries_from start fields) ≡ length fields
length-entries_from start [] = refl
length-entries_from start (f ∷ fields) = ap suc (length-entries_from (start + length (stored f)) fields)
