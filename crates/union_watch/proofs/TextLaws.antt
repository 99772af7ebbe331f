-- The turns of a history can be read from the text of `watch`.
use Rattle.std.proofs.Common.{◌≡◌, ◌≢◌, ℕ, zero, suc, ◌+◌, ◌/◌, ◌%◌, ◌==◌, ◌&&◌, nat_le, nat_lt, length, Bool, true, false, IsTrue, List, [], ◌∷◌, ◌++◌, map, refl, sym, ap, subst, ◌∙◌, arith, append_assoc}
use Rattle.std.specs.Prelude.{if◌then◌else◌, decimal, codes}
use Rattle.std.specs.Fmt.{digit_glyph, digits_onto, digits}
use Rattle.std.specs.List.{AllByRecursion, list_all, flat_map}
use Rattle.std.proofs.lemmas.List.{append_cancel_left}
use Rattle.union_base.specs.Both.{both_true}
use Rattle.union_base.specs.LibraryCodes.{may_stand, is_library_code}
use Rattle.catalogue_editions.specs.declared.history_entry.HistoryEntry.{HistoryEntry}
use Rattle.catalogue_query.specs.declared.query.QueryRefusal.TheVariants.{Unknown, Word as BadRest, Memory as QueryMemory}
use Rattle.library_batches.specs.Reports.{counted}
use Rattle.union_watch.specs.Told.{Told, Reply, Refused, reply_line, told_text_of}
use Rattle.union_watch.specs.TurnLines.{TurnLine, turn_of, turns_from, six_digits, turn_text, place_of}

-- the byte does not stand in the text
abbrev pub IsWithout : ℕ → List ℕ → Type 0
IsWithout byte text = AllByRecursion (λ b. b ≢ byte) text

-- ---- texts that end at a byte

cut-same : (byte : ℕ) (xs ys rest other : List ℕ) → IsWithout byte xs → IsWithout byte ys → xs ++ byte ∷ rest ≡ ys ++ byte ∷ other
    → (xs ≡ ys) × (rest ≡ other)
cut-same byte [] [] rest other none nor is = (refl, cc)
cut-same byte [] (y ∷ ys) rest other none nor is =
    let whole : byte ∷ rest ≡ y ∷ (ys ++ byte ∷ other) = is in
    let clash : y ≡ byte = cc in absurd (nor.0 clash)
cut-same byte (x ∷ xs) [] rest other none nor is =
    let whole : x ∷ (xs ++ byte ∷ rest) ≡ byte ∷ other = is in
    let clash : x ≡ byte = cc in absurd (none.0 clash)
cut-same byte (x ∷ xs) (y ∷ ys) rest other none nor is =
    let whole : x ∷ (xs ++ byte ∷ rest) ≡ y ∷ (ys ++ byte ∷ other) = is in
    let first : x ≡ y = cc in
    let tails : xs ++ byte ∷ rest ≡ ys ++ byte ∷ other = cc in
    let more = cut-same byte xs ys rest other none.1 nor.1 tails in
    (ap (λ b. b ∷ xs) first ∙ ap (λ bs. y ∷ bs) more.0, more.1)

-- ---- no digit is a line feed, and no byte of a code is a blank

glyph-as : (small : Bool) (d : ℕ) → (if small then 48 + d else 87 + d) ≢ 0x0A
glyph-as true d = λ is. omega arith
glyph-as false d = λ is. omega arith

either-without : (one : Bool) (xs ys : List ℕ) → IsWithout 0x0A xs → IsWithout 0x0A ys → IsWithout 0x0A (if one then xs else ys)
either-without true xs ys none nor = none
either-without false xs ys none nor = nor

digits-without : (k n : ℕ) (after : List ℕ) → IsWithout 0x0A after → IsWithout 0x0A (digits_onto k 10 false n after)
digits-without zero n after none = none
digits-without (suc k) n after none =
    let digit = digit_glyph false (n % 10) in
    let glyph : digit ≢ 0x0A = glyph-as (nat_lt (n % 10) 10) (n % 10) in
    either-without (n / 10 == 0) (digit ∷ after) (digits_onto k 10 false (n / 10) (digit ∷ after)) (glyph, none)
    (digits-without k (n / 10) (digit ∷ after) (glyph, none))

decimal-without : (n : ℕ) → IsWithout 0x0A (decimal n)
unfolding digits
decimal-without n = digits-without 64 n [] tt

stand-without : (text : List ℕ) → list_all may_stand text ≡ true → IsWithout 0x20 text
stand-without [] all = tt
stand-without (b ∷ text) all =
    let parts = both_true (may_stand b) (list_all may_stand text) all in
    (λ is. (let clash : false ≡ true = subst (λ x. may_stand x ≡ true) is parts.0 in cc), stand-without text parts.1)

code-without : (text : List ℕ) → IsTrue (is_library_code text) → IsWithout 0x20 text
code-without text code = stand-without text (both_true (nat_le 1 (length text) && nat_le (length text) 16) (list_all may_stand text) code).1

-- ---- one line

spelled : (turn : ℕ) (library : List ℕ) (operations : ℕ) (rest : List ℕ)
    → turn_text (record { turn = turn; library = library; operations = operations }) ++ rest
    ≡ codes "turn " ++ (six_digits turn ++ 0x20 ∷ (library ++ 0x20 ∷ (decimal operations ++ 0x0A ∷ rest)))
unfolding turn_text counted
spelled turn library operations rest = simp append_assoc

line-same : (turn : ℕ) (one two : HistoryEntry) (rest other : List ℕ) → IsTrue (is_library_code one.batch.library)
    → IsTrue (is_library_code two.batch.library) → turn_text (turn_of turn one) ++ rest ≡ turn_text (turn_of turn two) ++ other
    → (one.batch.library ≡ two.batch.library) × (rest ≡ other)
line-same turn one two rest other code another is =
    let end : HistoryEntry → List ℕ → List ℕ
    = λ entry rest. entry.batch.library ++ 0x20 ∷ (decimal (length entry.batch.ops) ++ 0x0A ∷ rest) in
    let whole : codes "turn " ++ (six_digits turn ++ 0x20 ∷ end one rest) ≡ codes "turn " ++ (six_digits turn ++ 0x20 ∷ end two other)
    = sym (spelled turn one.batch.library (length one.batch.ops) rest) ∙ (is ∙ spelled turn two.batch.library (length two.batch.ops) other) in
    let numbered = append_cancel_left (codes "turn ") (six_digits turn ++ 0x20 ∷ end one rest) (six_digits turn ++ 0x20 ∷ end two other) whole in
    let ends : 0x20 ∷ end one rest ≡ 0x20 ∷ end two other
    = append_cancel_left (six_digits turn) (0x20 ∷ end one rest) (0x20 ∷ end two other) numbered in
    let same : end one rest ≡ end two other = cc in
    let named = cut-same 0x20 one.batch.library two.batch.library (decimal (length one.batch.ops) ++ 0x0A ∷ rest)
    (decimal (length two.batch.ops) ++ 0x0A ∷ other) (code-without one.batch.library code) (code-without two.batch.library another) same in
    let counts = cut-same 0x0A (decimal (length one.batch.ops)) (decimal (length two.batch.ops)) rest other
    (decimal-without (length one.batch.ops)) (decimal-without (length two.batch.ops)) named.1 in
    (named.0, counts.1)

-- ---- what is told begins as no line on a turn does

not-first : (x : ℕ) (xs rest : List ℕ) → x ≡ 0x72 → x ∷ xs ≡ 0x74 ∷ rest → ⊥
not-first x xs rest first is = let next : x ≡ 0x74 = cc in omega arith

told-other : (told : List Told) (rest : List ℕ) → told_text_of told ≡ 0x74 ∷ rest → ⊥
unfolding reply_line
told-other [] rest is = cc
told-other (Reply over line answer ∷ told) rest is = not-first 0x72 _ rest refl is
told-other (Refused Unknown ∷ told) rest is = not-first 0x72 _ rest refl is
told-other (Refused BadRest ∷ told) rest is = not-first 0x72 _ rest refl is
told-other (Refused QueryMemory ∷ told) rest is = told-other told rest is

-- ---- all lines

-- the libraries of the turns
abbrev pub named : List HistoryEntry → List (List ℕ)
named history = map (λ entry. entry.batch.library) history

abbrev pub AreCoded : List HistoryEntry → Type 0
AreCoded history = AllByRecursion (λ entry. IsTrue (is_library_code entry.batch.library)) history

-- the text of turns, and what is told after them
abbrev pub text-of : ℕ → List HistoryEntry → List Told → List ℕ
text-of turn history told = flat_map turn_text (turns_from turn history) ++ told_text_of told

text-more : (turn : ℕ) (entry : HistoryEntry) (history : List HistoryEntry) (told : List Told)
    → text-of turn (entry ∷ history) told ≡ turn_text (turn_of turn entry) ++ text-of (turn + 1) history told
text-more turn entry history told =
    append_assoc (turn_text (turn_of turn entry)) (flat_map turn_text (turns_from (turn + 1) history)) (told_text_of told)

begins : (turn : ℕ) (entry : HistoryEntry) (history : List HistoryEntry) (told other : List Told)
    → told_text_of told ≡ text-of turn (entry ∷ history) other → ⊥
begins turn entry history told other is =
    told-other told _
    (is ∙ (text-more turn entry history other ∙ spelled turn entry.batch.library (length entry.batch.ops) (text-of (turn + 1) history other)))

pub named-same : (turn : ℕ) (one two : List HistoryEntry) (told other : List Told) → AreCoded one → AreCoded two
    → text-of turn one told ≡ text-of turn two other → named one ≡ named two
named-same turn [] [] told other coded also is = refl
named-same turn [] (entry ∷ two) told other coded also is = absurd (begins turn entry two told other is)
named-same turn (entry ∷ one) [] told other coded also is = absurd (begins turn entry one other told (sym is))
named-same turn (entry ∷ one) (next ∷ two) told other coded also is =
    let lines : turn_text (turn_of turn entry) ++ text-of (turn + 1) one told ≡ turn_text (turn_of turn next) ++ text-of (turn + 1) two other
    = sym (text-more turn entry one told) ∙ (is ∙ text-more turn next two other) in
    let first = line-same turn entry next (text-of (turn + 1) one told) (text-of (turn + 1) two other) coded.0 also.0 lines in
    ap (λ code. code ∷ named one) first.0 ∙ ap (λ codes. next.batch.library ∷ codes) (named-same (turn + 1) one two told other coded.1 also.1 first.1)

-- the places of the lines' libraries are those of the turns'
pub places-named : (libraries : List (List ℕ)) (turn : ℕ) (history : List HistoryEntry)
    → map (λ (line : TurnLine). place_of libraries line.library) (turns_from turn history) ≡ map (place_of libraries) (named history)
places-named libraries turn [] = refl
places-named libraries turn (entry ∷ history) =
    ap (λ places. place_of libraries entry.batch.library ∷ places) (places-named libraries (turn + 1) history)
