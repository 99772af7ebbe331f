-- Characters that are put in a row one by one make the words joined by one blank.
use Rattle.std.proofs.Common.{◌≡◌, ℕ, ◌+◌, ◌<◌, ◌&&◌, ◌||◌, Bool, true, false, cond, not, eqb, List, [], ◌∷◌, ◌++◌, length, encode_utf8, encode_utf8_all, refl, sym, ap, subst, eqb-true, ◌∙◌, append-nil, append_assoc, get_or, drop, add-one, drop-cons, arith, ◌⊎◌, inl, inr}
use Rattle.std.specs.List.{filter, list_any, slice_split, onto_first, join_with_byte}
use Rattle.std.proofs.lemmas.Str.{encodes-append, encode_ascii, length-encode, len_utf8_bounds}
use Rattle.naco_normal.specs.declared.form.Comma.{Comma}
use Rattle.naco_normal.specs.declared.form.Comma.TheVariants.{First, None}
use Rattle.naco_normal.specs.Normal.{Mark, comma_sign, is_letter_or_number, is_kept, kept_marked, first_comma_marked, others_blank, one_blank_between, spaced}
use Rattle.naco_normal.specs.Shown.{is_shown, keeps_first}
use Rattle.naco_normal.specs.Words.{is_empty, joined_words, after_gap, joined}
use Rattle.union_base.specs.Blanks.{blank}
use Rattle.ucd_category.proofs.Computing.{ucd_category}

-- the text with the rest read: whether a gap goes before the next character, whether a comma is awaited
abbrev pub read_on : List ℕ → Bool → Bool → List ℕ → List ℕ
read_on text gap awaiting [] = text
read_on text gap awaiting (c ∷ cs) =
    read_on (cond (is_shown c awaiting cs) (after_gap text gap ++ encode_utf8 c) text) (not (is_shown c awaiting cs)) (awaiting && not (eqb c comma_sign)) cs

-- the same where each character but the blank is shown
abbrev pub read_words : List ℕ → Bool → List ℕ → List ℕ
read_words text gap [] = text
read_words text gap (c ∷ cs) = cond (eqb c blank) (read_words text true cs) (read_words (after_gap text gap ++ encode_utf8 c) false cs)

blank_not_kept : is_kept blank ≡ false
unfolding ucd_category
blank_not_kept = refl

-- ---- what shows, and what becomes a blank

-- steps 6 to 8, where a comma may be awaited
abbrev pub blanked : Bool → List ℕ → List ℕ
blanked awaiting cs = others_blank (cond awaiting (first_comma_marked (kept_marked cs)) (kept_marked cs))

any_marked : (cs : List ℕ) → list_any (λ (after : Mark). is_letter_or_number after.char) (kept_marked cs) ≡ list_any is_letter_or_number cs
any_marked [] = refl
any_marked (c ∷ cs) = ap (λ b. is_letter_or_number c || b) (any_marked cs)

-- by whether the first character is the comma
first_blanked : (c : ℕ) (cs : List ℕ) (is_comma : Bool)
    → others_blank (cond is_comma (record { char = c; kept = list_any (λ (after : Mark). is_letter_or_number after.char) (kept_marked cs) } ∷ kept_marked cs) (record { char = c; kept = is_kept c } ∷ first_comma_marked (kept_marked cs)))
    ≡ cond (cond is_comma (list_any is_letter_or_number cs) (is_kept c)) c blank ∷ blanked (not is_comma) cs
first_blanked c cs true = ap (λ b. cond b c blank ∷ others_blank (kept_marked cs)) (any_marked cs)
first_blanked c cs false = refl

blanked-cons : (awaiting : Bool) (c : ℕ) (cs : List ℕ) → blanked awaiting (c ∷ cs) ≡ cond (is_shown c awaiting cs) c blank ∷ blanked (awaiting && not (eqb c comma_sign)) cs
blanked-cons false c cs = refl
blanked-cons true c cs = first_blanked c cs (eqb c comma_sign)

-- a character that shows is no blank
shown_blank : (c : ℕ) (awaiting : Bool) (cs : List ℕ) → eqb c blank ≡ true → is_shown c awaiting cs ≡ false
shown_blank c awaiting cs e = let same : c ≡ blank = eqb-true c blank e in subst (λ x. is_shown x awaiting cs ≡ false) (sym same) (blank_hides awaiting)
  where
    blank_hides : (awaiting : Bool) → is_shown blank awaiting cs ≡ false
    blank_hides true = blank_not_kept
    blank_hides false = blank_not_kept

-- what a shown or blanked character adds
read_first : (text : List ℕ) (gap : Bool) (c : ℕ) (rest : List ℕ) (shows : Bool) (is_blank : Bool) → eqb c blank ≡ is_blank → (is_blank ≡ true → shows ≡ false)
    → read_words text gap (cond shows c blank ∷ rest) ≡ read_words (cond shows (after_gap text gap ++ encode_utf8 c) text) (not shows) rest
read_first text gap c rest false is_blank e hides = refl
read_first text gap c rest true true e hides = cc (hides refl)
read_first text gap c rest true false e hides = ap (λ b. cond b (read_words text true rest) (read_words (after_gap text gap ++ encode_utf8 c) false rest)) e

-- reading on is reading the words that are left once the others are blanks
pub read_on-words : (text : List ℕ) (gap awaiting : Bool) (cs : List ℕ) → read_on text gap awaiting cs ≡ read_words text gap (blanked awaiting cs)
read_on-words text gap true [] = refl
read_on-words text gap false [] = refl
read_on-words text gap awaiting (c ∷ cs) =
    read_on-words (cond (is_shown c awaiting cs) (after_gap text gap ++ encode_utf8 c) text) (not (is_shown c awaiting cs)) (awaiting && not (eqb c comma_sign)) cs
    ∙ sym (read_first text gap c (blanked (awaiting && not (eqb c comma_sign)) cs) (is_shown c awaiting cs) (eqb c blank) refl (shown_blank c awaiting cs))
    ∙ ap (read_words text gap) (sym (blanked-cons awaiting c cs))

-- ---- two texts with a blank between them

pub joined-nil : (text : List ℕ) → joined [] text ≡ text
joined-nil [] = refl
joined-nil (c ∷ cs) = refl

regroup : (a b s d : List ℕ) → ((a ++ b) ++ s) ++ d ≡ a ++ ((b ++ s) ++ d)
regroup a b s d = ap (λ l. l ++ d) (append_assoc a b s) ∙ append_assoc a (b ++ s) d

pub joined_assoc : (a b d : List ℕ) → joined (joined a b) d ≡ joined a (joined b d)
joined_assoc a [] d = ap (joined a) (sym (joined-nil d))
joined_assoc a (b ∷ bs) [] = refl
joined_assoc [] (b ∷ bs) (d ∷ ds) = refl
joined_assoc (a ∷ rest) (b ∷ bs) (d ∷ ds) = regroup (a ∷ rest ++ blank ∷ []) (b ∷ bs) (blank ∷ []) (d ∷ ds)

-- a longer second text
joined-append : (text xs ys : List ℕ) → is_empty xs ≡ false → joined text (xs ++ ys) ≡ joined text xs ++ ys
joined-append text [] ys e = cc
joined-append text (x ∷ xs) ys e = sym (append_assoc (after_gap text true) (x ∷ xs) ys)

filled : (xs : List ℕ) → 0 < length xs → is_empty xs ≡ false
filled [] h = absurd (omega arith)
filled (x ∷ xs) h = refl

encode_not_empty : (c : ℕ) → is_empty (encode_utf8 c) ≡ false
encode_not_empty c = filled (encode_utf8 c) (omega (arith, length-encode c, (len_utf8_bounds c).0))

joined_filled : (text xs : List ℕ) → is_empty xs ≡ false → joined text xs ≡ after_gap text true ++ xs
joined_filled text [] e = cc
joined_filled text (x ∷ xs) e = refl

-- ---- words one after the other

-- the words after the text
abbrev pub all_joined : List ℕ → List (List ℕ) → List ℕ
all_joined text [] = text
all_joined text (w ∷ ws) = all_joined (joined text (encode_utf8_all w)) ws

-- the same where the first of them goes on with the text's last word
abbrev pub rest_joined : List ℕ → List (List ℕ) → List ℕ
rest_joined text [] = text
rest_joined text (w ∷ ws) = all_joined (text ++ encode_utf8_all w) ws

abbrev parts : List ℕ → List (List ℕ)
parts = slice_split (λ c. eqb c blank)

-- what reading does with a text, in a gap and in a word
abbrev ReadsTo : List ℕ → List (List ℕ) → List ℕ → Type 0
ReadsTo cs ws text = (read_words text true cs ≡ all_joined text ws) × (read_words text false cs ≡ rest_joined text ws)

-- a character opens the first word
opens : (c : ℕ) (text : List ℕ) (ws : List (List ℕ)) → rest_joined (after_gap text true ++ encode_utf8 c) ws ≡ all_joined text (onto_first c ws)
opens c text [] = sym (ap (joined text) (append-nil (encode_utf8 c)) ∙ joined_filled text (encode_utf8 c) (encode_not_empty c))
opens c text (w ∷ ws) =
    ap (λ t. all_joined t ws) (ap (λ t. t ++ encode_utf8_all w) (sym (joined_filled text (encode_utf8 c) (encode_not_empty c))) ∙ sym (joined-append text (encode_utf8 c) (encode_utf8_all w) (encode_not_empty c)))

-- a character goes on with the first word
goes_on : (c : ℕ) (text : List ℕ) (ws : List (List ℕ)) → rest_joined (text ++ encode_utf8 c) ws ≡ rest_joined text (onto_first c ws)
goes_on c text [] = ap (λ t. text ++ t) (sym (append-nil (encode_utf8 c)))
goes_on c text (w ∷ ws) = ap (λ t. all_joined t ws) (append_assoc text (encode_utf8 c) (encode_utf8_all w))

-- a blank ends a word, and any other character goes before the first word
reads_one : (c : ℕ) (cs : List ℕ) (ws : List (List ℕ)) (text : List ℕ) → ((t : List ℕ) → ReadsTo cs ws t) → (is_blank : Bool)
    → (cond is_blank (read_words text true cs) (read_words (after_gap text true ++ encode_utf8 c) false cs) ≡ all_joined text (cond is_blank ([] ∷ ws) (onto_first c ws)))
    × (cond is_blank (read_words text true cs) (read_words (text ++ encode_utf8 c) false cs) ≡ rest_joined text (cond is_blank ([] ∷ ws) (onto_first c ws)))
reads_one c cs ws text rest true = ((rest text).0, (rest text).0 ∙ ap (λ t. all_joined t ws) (sym (append-nil text)))
reads_one c cs ws text rest false = ((rest (after_gap text true ++ encode_utf8 c)).1 ∙ opens c text ws, (rest (text ++ encode_utf8 c)).1 ∙ goes_on c text ws)

words_read : (cs text : List ℕ) → ReadsTo cs (parts cs) text
words_read [] text = (refl, sym (append-nil text))
words_read (c ∷ cs) text = reads_one c cs (parts cs) text (words_read cs) (eqb c blank)

-- ---- the words that are not empty, joined

-- the words that are kept are none, or begin with a character
joined_kept : (words : List (List ℕ)) → (filter (λ word. not (is_empty word)) words ≡ []) ⊎ (is_empty (joined_words words) ≡ false)
joined_kept [] = inl refl
joined_kept ([] ∷ ws) = joined_kept ws
joined_kept ((c ∷ cs) ∷ ws) = inr (begins (filter (λ word. not (is_empty word)) ws))
  where
    begins : (kept : List (List ℕ)) → is_empty (join_with_byte blank ((c ∷ cs) ∷ kept)) ≡ false
    begins [] = refl
    begins (w ∷ kept) = refl

-- a word that isn't empty before those that are kept
before_kept : (c : ℕ) (cs : List ℕ) (kept : List (List ℕ)) → (kept ≡ []) ⊎ (is_empty (join_with_byte blank kept) ≡ false) → join_with_byte blank ((c ∷ cs) ∷ kept) ≡ joined (c ∷ cs) (join_with_byte blank kept)
before_kept c cs [] kind = refl
before_kept c cs (w ∷ ws) (inl none) = cc
before_kept c cs (w ∷ ws) (inr some) = sym (joined_filled (c ∷ cs) (join_with_byte blank (w ∷ ws)) some ∙ append_assoc (c ∷ cs) (blank ∷ []) (join_with_byte blank (w ∷ ws)))

-- a word before others
pub joined_words-cons : (w : List ℕ) (ws : List (List ℕ)) → joined_words (w ∷ ws) ≡ joined w (joined_words ws)
joined_words-cons [] ws = sym (joined-nil (joined_words ws))
joined_words-cons (c ∷ cs) ws = before_kept c cs (filter (λ word. not (is_empty word)) ws) (joined_kept ws)

-- ---- in UTF-8

append_filled : (xs ys : List ℕ) → is_empty xs ≡ false → is_empty (xs ++ ys) ≡ false
append_filled [] ys e = cc
append_filled (x ∷ xs) ys e = refl

encodes_filled : (c : ℕ) (cs : List ℕ) → is_empty (encode_utf8_all (c ∷ cs)) ≡ false
encodes_filled c cs = append_filled (encode_utf8 c) (encode_utf8_all cs) (encode_not_empty c)

-- a text that isn't empty, ready for another word
after_filled : (text : List ℕ) → is_empty text ≡ false → after_gap text true ≡ text ++ blank ∷ []
after_filled [] e = cc
after_filled (c ∷ cs) e = refl

encode_joined : (w x : List ℕ) → encode_utf8_all (joined w x) ≡ joined (encode_utf8_all w) (encode_utf8_all x)
encode_joined [] x = ap encode_utf8_all (joined-nil x) ∙ sym (joined-nil (encode_utf8_all x))
encode_joined (c ∷ cs) [] = refl
encode_joined (c ∷ cs) (y ∷ ys) =
    encodes-append (c ∷ cs ++ blank ∷ []) (y ∷ ys)
    ∙ ap (λ t. t ++ encode_utf8_all (y ∷ ys)) (encodes-append (c ∷ cs) (blank ∷ []) ∙ ap (λ t. encode_utf8_all (c ∷ cs) ++ (t ++ [])) (encode_ascii blank (omega arith)) ∙ sym (after_filled (encode_utf8_all (c ∷ cs)) (encodes_filled c cs)))
    ∙ sym (joined_filled (encode_utf8_all (c ∷ cs)) (encode_utf8_all (y ∷ ys)) (encodes_filled y ys))

-- words after a text are that text and the joined words
all_joined-words : (ws : List (List ℕ)) (text : List ℕ) → all_joined text ws ≡ joined text (encode_utf8_all (joined_words ws))
all_joined-words [] text = refl
all_joined-words (w ∷ ws) text =
    all_joined-words ws (joined text (encode_utf8_all w))
    ∙ joined_assoc text (encode_utf8_all w) (encode_utf8_all (joined_words ws))
    ∙ ap (joined text) (sym (ap encode_utf8_all (joined_words-cons w ws) ∙ encode_joined w (joined_words ws)))

-- ---- the whole

blanked_spaced : (comma : Comma) (cs : List ℕ) → one_blank_between (blanked (keeps_first comma) cs) ≡ spaced comma cs
blanked_spaced First cs = refl
blanked_spaced None cs = refl

-- reading the letters puts their form after the text
pub read_on-spaced : (comma : Comma) (cs text : List ℕ) → read_on text true (keeps_first comma) cs ≡ joined text (encode_utf8_all (spaced comma cs))
read_on-spaced comma cs text =
    read_on-words text true (keeps_first comma) cs
    ∙ (words_read (blanked (keeps_first comma) cs) text).0
    ∙ all_joined-words (parts (blanked (keeps_first comma) cs)) text
    ∙ ap (λ form. joined text (encode_utf8_all form)) (blanked_spaced comma cs)

at_place : (xs : List ℕ) (i d : ℕ) → i < length xs → drop i xs ≡ get_or xs i d ∷ drop (i + 1) xs
at_place xs i d h = rw (add-one, drop-cons xs i d)

-- the character at a place, and those after it
pub read_on-drop : (text : List ℕ) (gap awaiting : Bool) (xs : List ℕ) (i c : ℕ) → i < length xs → get_or xs i c ≡ c
    → read_on text gap awaiting (drop i xs)
    ≡ read_on (cond (is_shown c awaiting (drop (i + 1) xs)) (after_gap text gap ++ encode_utf8 c) text) (not (is_shown c awaiting (drop (i + 1) xs))) (awaiting && not (eqb c comma_sign)) (drop (i + 1) xs)
read_on-drop text gap awaiting xs i c h e = ap (read_on text gap awaiting) (at_place xs i c h ∙ ap (λ x. x ∷ drop (i + 1) xs) e)
