-- An entry is read from the bytes that spell it, and what is read spells the bytes.
use Rattle.std.proofs.Common.{◌≡◌, ℕ, ◌^◌, ◌<◌, Bool, true, false, ◌&&◌, List, [], ◌∷◌, ◌++◌, length, get_or, subst, take, Result, Ok, Err, refl, sym, ◌∙◌, ap}
use Rattle.std.specs.Char.{is_ascii_digit}
use Rattle.std.specs.Prelude.{slice_range, if◌then◌else◌}
use Rattle.std.proofs.lemmas.List.Folds.{list_all-append}
use Rattle.marc_leader.specs.Entry.{entry_text, entry_of, is_tag, tag_place, size_place, start_place}
use Rattle.marc_leader.specs.Numeral.{are_digits, number_of, numeral}
use Rattle.marc_leader.specs.declared.entry.Entry.{Entry}
use Rattle.marc_leader.specs.declared.entry.EntryRule.{EntryRule}
use Rattle.marc_leader.specs.declared.entry.EntryRule.TheVariants.{Digits, Tag}
use Rattle.marc_leader.proofs.Numerals.{number_of-numeral, are_digits-numeral, numeral-number_of}
use Rattle.marc_leader.proofs.Places.{reads, drop-reads}

-- the entry whose values stand at the places of the text
abbrev pub entry_at : List ℕ → Entry
entry_at text = record { tag = tag_place text; length = number_of (size_place text); start = number_of (start_place text) }

-- what is read where no rule is broken
pub entry_of-kept : (text : List ℕ) → are_digits (size_place text) ≡ true → are_digits (start_place text) ≡ true
    → is_tag (tag_place text) ≡ true → entry_of text ≡ Ok (entry_at text)
entry_of-kept text d e t = rw (d, e, t) refl

-- the nine bytes after the tag are digits where those of the length and of the start are
pub digits-both : (text : List ℕ) → length text ≡ 12 → are_digits (slice_range text 3 12) ≡ (are_digits (size_place text) && are_digits (start_place text))
digits-both text h =
    let all : text ≡ reads 12 0 text = drop-reads 12 0 text h in
    let whole : slice_range text 3 12 ≡ reads 4 3 text ++ reads 5 7 text = ap (λ t. slice_range t 3 12) all in
    let size : size_place text ≡ reads 4 3 text = ap size_place all in
    let start : start_place text ≡ reads 5 7 text = ap start_place all in
    ap are_digits whole
    ∙ (list_all-append is_ascii_digit (reads 4 3 text) (reads 5 7 text)
    ∙ (ap (λ t. are_digits t && are_digits (reads 5 7 text)) (sym size) ∙ ap (λ t. are_digits (size_place text) && are_digits t) (sym start)))

-- the entry that is read, by whether the numbers are digits and the tag is one
abbrev entry_by : List ℕ → Bool → Bool → Result Entry EntryRule
entry_by text digits tag = (if digits then (if tag then Ok (entry_at text) else Err Tag) else Err Digits)

entry_by-is : (text : List ℕ) → entry_of text ≡ entry_by text (are_digits (size_place text) && are_digits (start_place text)) (is_tag (tag_place text))
entry_by-is text = refl

-- what is read where a number is not all digits
pub entry_of-digits : (text : List ℕ) → (are_digits (size_place text) && are_digits (start_place text)) ≡ false → Err Digits ≡ entry_of text
entry_of-digits text bad = sym (entry_by-is text ∙ ap (λ digits. entry_by text digits (is_tag (tag_place text))) bad)

-- and where the numbers are, and the tag is none
pub entry_of-tag : (text : List ℕ) → (are_digits (size_place text) && are_digits (start_place text)) ≡ true → is_tag (tag_place text) ≡ false → Err Tag ≡ entry_of text
entry_of-tag text good bad =
    sym (entry_by-is text ∙ (ap (λ digits. entry_by text digits (is_tag (tag_place text))) good ∙ ap (entry_by text true) bad))

-- the tag's bytes
pub tag_place-reads : (text : List ℕ) → length text ≡ 12 → tag_place text ≡ reads 3 0 text
tag_place-reads text h = ap (λ t. take 3 t) (drop-reads 12 0 text h)

-- an entry is read from the bytes that spell it
pub entry_of-text : (a b c n s : ℕ) → is_tag (a ∷ b ∷ c ∷ []) ≡ true → n < 10 ^ 4 → s < 10 ^ 5
    → entry_of (entry_text (record { tag = a ∷ b ∷ c ∷ []; length = n; start = s })) ≡ Ok (record { tag = a ∷ b ∷ c ∷ []; length = n; start = s })
entry_of-text a b c n s t small low =
    let entry : Entry = record { tag = a ∷ b ∷ c ∷ []; length = n; start = s } in
    entry_of-kept (entry_text entry) (are_digits-numeral 4 n) (are_digits-numeral 5 s) t
    ∙ (ap (λ m. let it : Entry = record { tag = a ∷ b ∷ c ∷ []; length = m; start = number_of (numeral 5 s) } in Ok it) (number_of-numeral 4 n small)
    ∙ ap (λ m. let it : Entry = record { tag = a ∷ b ∷ c ∷ []; length = n; start = m } in Ok it) (number_of-numeral 5 s low))

-- the bytes of an entry are spelled by the values that stand at their places
pub entry_text-at : (text : List ℕ) → length text ≡ 12 → are_digits (size_place text) ≡ true → are_digits (start_place text) ≡ true
    → text ≡ entry_text (entry_at text)
entry_text-at text h d e =
    let all : text ≡ reads 12 0 text = drop-reads 12 0 text h in
    let front : take 3 text ≡ reads 3 0 text = ap (λ t. take 3 t) all in
    let size_is : size_place text ≡ reads 4 3 text = ap size_place all in
    let start_is : start_place text ≡ reads 5 7 text = ap start_place all in
    let four : numeral 4 (number_of (size_place text)) ≡ reads 4 3 text = numeral-number_of 4 (size_place text) d (ap length size_is) ∙ size_is in
    let five : numeral 5 (number_of (start_place text)) ≡ reads 5 7 text = numeral-number_of 5 (start_place text) e (ap length start_is) ∙ start_is in
    all ∙ sym (ap (λ t. t ++ numeral 4 (number_of (size_place text)) ++ numeral 5 (number_of (start_place text))) front
    ∙ (ap (λ n. reads 3 0 text ++ n ++ numeral 5 (number_of (start_place text))) four
    ∙ ap (λ n. reads 3 0 text ++ reads 4 3 text ++ n) five))

-- the entry of the bytes and numbers read is the one that stands there
pub entry_at-is : (text : List ℕ) (n s : ℕ) → length text ≡ 12 → n ≡ number_of (size_place text) → s ≡ number_of (start_place text)
    → entry_at text ≡ record { tag = reads 3 0 text; length = n; start = s }
entry_at-is text n s h e f =
    let front : take 3 text ≡ reads 3 0 text = ap (λ t. take 3 t) (drop-reads 12 0 text h) in
    rw (e, f, front) refl

-- an entry with a tag is read from the bytes that spell it
pub entry_of-entry_text : (entry : Entry) → length entry.tag ≡ 3 → is_tag entry.tag ≡ true → entry.length < 10 ^ 4 → entry.start < 10 ^ 5
    → entry_of (entry_text entry) ≡ Ok entry
entry_of-entry_text entry three t small low =
    let n = entry.length in
    let s = entry.start in
    let Law : List ℕ → Type 0 = λ tag. is_tag tag ≡ true
    → entry_of (entry_text (record { tag = tag; length = n; start = s })) ≡ Ok (record { tag = tag; length = n; start = s }) in
    subst Law (sym (drop-reads 3 0 entry.tag three))
    (λ u. entry_of-text (get_or entry.tag 0 0) (get_or entry.tag 1 0) (get_or entry.tag 2 0) n s u small low) t
