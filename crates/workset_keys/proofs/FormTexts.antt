-- The forms of names and titles have none of the bytes that part records, fields and subfields.
use Rattle.std.proofs.Common.{◌≡◌, ℕ, ◌+◌, ◌/◌, ◌%◌, ◌≤◌, Bool, true, false, cond, not, eqb, ◌||◌, List, [], ◌∷◌, ◌++◌, encode_utf8, encode_utf8_all, refl, sym, ◌∙◌, ap, arith, map}
use Rattle.std.specs.Prelude.{nat_lt, chars}
use Rattle.std.specs.List.{list_all, list_any, slice_split, onto_first}
use Rattle.std.proofs.Math.Utf8.{encode}
use Rattle.std.proofs.lemmas.Bool.Decides.{nat_tests}
use Rattle.std.proofs.lemmas.List.Folds.{list_all-append}
use Rattle.union_base.specs.Both.{both_true, true_both}
use Rattle.union_base.specs.Fields.{is_text_byte, is_text}
use Rattle.union_base.specs.Bodies.{Subfield}
use Rattle.naco_normal.specs.declared.form.Comma.{Comma}
use Rattle.naco_normal.specs.declared.form.Comma.TheVariants.{First, None as NoComma}
use Rattle.naco_normal.specs.Normal.{Mark, comma_sign, is_letter_or_number, is_kept, kept_marked, first_comma_marked, comma_marked, others_blank, letters, normal_form}
use Rattle.naco_normal.specs.Words.{joined_words, joined}
use Rattle.union_base.specs.Blanks.{blank}
use Rattle.naco_normal.proofs.WordsLemmas.{joined_words-cons}
use Rattle.naco_normal.specs.Heading.{chosen, main_code, part_forms, form_with_comma, form_without_comma, form_skipping, skipped, heading_of, title_of}
use Rattle.ucd_category.proofs.Computing.{ucd_category}

-- ---- characters and bytes

-- the three bytes that part are not kept in a form
first_not_kept : is_kept 0x1D ≡ false
unfolding ucd_category
first_not_kept = refl

second_not_kept : is_kept 0x1E ≡ false
unfolding ucd_category
second_not_kept = refl

third_not_kept : is_kept 0x1F ≡ false
unfolding ucd_category
third_not_kept = refl

text-from_kept : (c : ℕ) → is_kept c ≡ true → is_text_byte c ≡ true
text-from_kept c h =
    elim (eqb c 0x1D) as (λ t. eqb c 0x1D ≡ t → is_text_byte c ≡ true) [
      | true ↦ λ e. let same : c ≡ 0x1D = grind (arith, nat_tests) in let clash : true ≡ false = sym h ∙ ap is_kept same ∙ first_not_kept in cc
      | false ↦ λ e. elim (eqb c 0x1E) as (λ t. eqb c 0x1E ≡ t → is_text_byte c ≡ true) [
        | true ↦ λ f. let same : c ≡ 0x1E = grind (arith, nat_tests) in let clash : true ≡ false = sym h ∙ ap is_kept same ∙ second_not_kept in cc
        | false ↦ λ f. elim (eqb c 0x1F) as (λ t. eqb c 0x1F ≡ t → is_text_byte c ≡ true) [
          | true ↦ λ g. let same : c ≡ 0x1F = grind (arith, nat_tests) in let clash : true ≡ false = sym h ∙ ap is_kept same ∙ third_not_kept in cc
          | false ↦ λ g. grind (arith, nat_tests)
        ] refl
      ] refl
    ] refl

-- the bytes of a character that is none of the three
pub text-either : (b : Bool) (x y : List ℕ) → is_text x ≡ true → is_text y ≡ true → is_text (cond b x y) ≡ true
text-either true x y p q = p
text-either false x y p q = q

text-high : (b : ℕ) (bs : List ℕ) → 128 ≤ b → is_text bs ≡ true → is_text (b ∷ bs) ≡ true
text-high b bs high rest =
    let one : is_text_byte b ≡ true = grind (arith, nat_tests) in
    true_both (is_text_byte b) (is_text bs) one rest

text-encode : (c : ℕ) → is_text_byte c ≡ true → is_text (encode c) ≡ true
unfolding encode
text-encode c h =
    let last : is_text ((128 + c % 64) ∷ []) ≡ true = text-high (128 + c % 64) [] (omega arith) refl in
    let two : is_text ((128 + c / 64 % 64) ∷ (128 + c % 64) ∷ []) ≡ true = text-high (128 + c / 64 % 64) ((128 + c % 64) ∷ []) (omega arith) last in
    text-either (nat_lt c 128) (c ∷ []) _ (true_both (is_text_byte c) true h refl)
    (text-either (nat_lt c 2048) ((192 + c / 64) ∷ (128 + c % 64) ∷ []) _ (text-high (192 + c / 64) ((128 + c % 64) ∷ []) (omega arith) last)
    (text-either (nat_lt c 65536) ((224 + c / 4096) ∷ (128 + c / 64 % 64) ∷ (128 + c % 64) ∷ []) _
    (text-high (224 + c / 4096) ((128 + c / 64 % 64) ∷ (128 + c % 64) ∷ []) (omega arith) two)
    (text-high (240 + c / 262144) ((128 + c / 4096 % 64) ∷ (128 + c / 64 % 64) ∷ (128 + c % 64) ∷ []) (omega arith)
    (text-high (128 + c / 4096 % 64) ((128 + c / 64 % 64) ∷ (128 + c % 64) ∷ []) (omega arith) two))))

text-encodes : (cs : List ℕ) → is_text cs ≡ true → is_text (encode_utf8_all cs) ≡ true
text-encodes [] h = refl
text-encodes (c ∷ cs) h =
    let parts = both_true (is_text_byte c) (is_text cs) h in
    list_all-append is_text_byte (encode_utf8 c) (encode_utf8_all cs) ∙ true_both (is_text (encode_utf8 c)) (is_text (encode_utf8_all cs)) (text-encode c parts.0) (text-encodes cs parts.1)

pub text-append : (a b : List ℕ) → is_text a ≡ true → is_text b ≡ true → is_text (a ++ b) ≡ true
text-append a b p q = list_all-append is_text_byte a b ∙ true_both (is_text a) (is_text b) p q

pub text-three : (a b d : List ℕ) → is_text a ≡ true → is_text b ≡ true → is_text d ≡ true → is_text (a ++ b ++ d) ≡ true
text-three a b d p q r = text-append (a ++ b) d (text-append a b p q) r

-- ---- words

text-joined : (text more : List ℕ) → is_text text ≡ true → is_text more ≡ true → is_text (joined text more) ≡ true
text-joined text [] p q = p
text-joined [] (c ∷ cs) p q = q
text-joined (b ∷ bs) (c ∷ cs) p q = text-append (b ∷ bs ++ blank ∷ []) (c ∷ cs) (text-append (b ∷ bs) (blank ∷ []) p refl) q

text-joined_words : (words : List (List ℕ)) → list_all is_text words ≡ true → is_text (joined_words words) ≡ true
text-joined_words [] h = refl
text-joined_words (w ∷ ws) h =
    let parts = both_true (is_text w) (list_all is_text ws) h in
    ap is_text (joined_words-cons w ws) ∙ text-joined w (joined_words ws) parts.0 (text-joined_words ws parts.1)

texts-onto_first : (c : ℕ) (ws : List (List ℕ)) → is_text_byte c ≡ true → list_all is_text ws ≡ true → list_all is_text (onto_first c ws) ≡ true
texts-onto_first c [] p q = true_both (is_text (c ∷ [])) true (true_both (is_text_byte c) true p refl) refl
texts-onto_first c (w ∷ ws) p q =
    let parts = both_true (is_text w) (list_all is_text ws) q in
    true_both (is_text (c ∷ w)) (list_all is_text ws) (true_both (is_text_byte c) (is_text w) p parts.0) parts.1

texts-split : (p : ℕ → Bool) (cs : List ℕ) → is_text cs ≡ true → list_all is_text (slice_split p cs) ≡ true
texts-split p [] h = refl
texts-split p (c ∷ cs) h =
    let parts = both_true (is_text_byte c) (is_text cs) h in
    elim (p c) as (λ b. list_all is_text (cond b ([] ∷ slice_split p cs) (onto_first c (slice_split p cs))) ≡ true) [
      | true ↦ texts-split p cs parts.1
      | false ↦ texts-onto_first c (slice_split p cs) parts.0 (texts-split p cs parts.1)
    ]

-- ---- forms

-- what is kept is none of the three
abbrev may_show : Mark → Bool
may_show m = not m.kept || is_text_byte m.char

shown : (kept : Bool) (c : ℕ) → (not kept || is_text_byte c) ≡ true → is_text_byte (cond kept c blank) ≡ true
shown true c h = h
shown false c h = refl

text-others_blank : (ms : List Mark) → list_all may_show ms ≡ true → is_text (others_blank ms) ≡ true
text-others_blank [] h = refl
text-others_blank (m ∷ ms) h =
    let parts = both_true (may_show m) (list_all may_show ms) h in
    true_both (is_text_byte (cond m.kept m.char blank)) (is_text (others_blank ms)) (shown m.kept m.char parts.0) (text-others_blank ms parts.1)

show-kept : (cs : List ℕ) → list_all may_show (kept_marked cs) ≡ true
show-kept [] = refl
show-kept (c ∷ cs) =
    true_both (not (is_kept c) || is_text_byte c) (list_all may_show (kept_marked cs))
    (elim (is_kept c) as (λ b. is_kept c ≡ b → (not b || is_text_byte c) ≡ true) [ true ↦ λ e. text-from_kept c e | false ↦ λ e. refl ] refl)
    (show-kept cs)

show-first_comma : (ms : List Mark) → list_all may_show ms ≡ true → list_all may_show (first_comma_marked ms) ≡ true
show-first_comma [] h = refl
show-first_comma (m ∷ ms) h =
    let parts = both_true (may_show m) (list_all may_show ms) h in
    elim (eqb m.char comma_sign) as (λ b. eqb m.char comma_sign ≡ b
    → list_all may_show (cond b (record { char = m.char; kept = list_any (λ after. is_letter_or_number after.char) ms } ∷ ms) (m ∷ first_comma_marked ms)) ≡ true) [
      | true ↦ λ e.
          (let comma : is_text_byte m.char ≡ true = grind (arith, nat_tests) in
          let kept = list_any (λ after. is_letter_or_number after.char) ms in
          true_both (not kept || is_text_byte m.char) (list_all may_show ms)
          (elim kept as (λ k. (not k || is_text_byte m.char) ≡ true) [ true ↦ comma | false ↦ refl ]) parts.1)
      | false ↦ λ e. true_both (may_show m) (list_all may_show (first_comma_marked ms)) parts.0 (show-first_comma ms parts.1)
    ] refl

show-comma : (comma : Comma) (cs : List ℕ) → list_all may_show (comma_marked comma (kept_marked cs)) ≡ true
show-comma First cs = show-first_comma (kept_marked cs) (show-kept cs)
show-comma NoComma cs = show-kept cs

-- a form has none of the three
text-form : (comma : Comma) (cs : List ℕ) → is_text (normal_form comma cs) ≡ true
text-form comma cs =
    let marked = comma_marked comma (kept_marked (letters cs)) in
    text-joined_words (slice_split (λ c. eqb c blank) (others_blank marked))
    (texts-split (λ c. eqb c blank) (others_blank marked) (text-others_blank marked (show-comma comma (letters cs))))

texts-part_forms : (first other : List ℕ → List ℕ) → ((text : List ℕ) → is_text (first text) ≡ true) → ((text : List ℕ) → is_text (other text) ≡ true)
    → (ss : List Subfield) → list_all is_text (part_forms first other ss) ≡ true
texts-part_forms first other p q [] = refl
texts-part_forms first other p q (s ∷ ss) =
    elim (eqb s.code main_code) as (λ b. list_all is_text (cond b (first s.text ∷ map (λ rest. other rest.text) ss) (other s.text ∷ part_forms first other ss)) ≡ true) [
      | true ↦ true_both (is_text (first s.text)) (list_all is_text (map (λ rest. other rest.text) ss)) (p s.text) (texts-map ss)
      | false ↦ true_both (is_text (other s.text)) (list_all is_text (part_forms first other ss)) (q s.text) (texts-part_forms first other p q ss)
    ]
  where
    texts-map : (xs : List Subfield) → list_all is_text (map (λ rest. other rest.text) xs) ≡ true
    texts-map [] = refl
    texts-map (x ∷ xs) = true_both (is_text (other x.text)) (list_all is_text (map (λ rest. other rest.text) xs)) (q x.text) (texts-map xs)

text-with_comma : (text : List ℕ) → is_text (form_with_comma text) ≡ true
text-with_comma text = text-encodes (normal_form First (chars text)) (text-form First (chars text))

text-without_comma : (text : List ℕ) → is_text (form_without_comma text) ≡ true
text-without_comma text = text-encodes (normal_form NoComma (chars text)) (text-form NoComma (chars text))

text-skipping : (skip : ℕ) (text : List ℕ) → is_text (form_skipping skip text) ≡ true
text-skipping skip text = text-encodes (normal_form NoComma (skipped skip (chars text))) (text-form NoComma (skipped skip (chars text)))

pub text-heading : (subfields : List Subfield) (wanted : List ℕ) → is_text (heading_of subfields wanted) ≡ true
text-heading subfields wanted =
    text-joined_words (part_forms form_with_comma form_without_comma (chosen wanted subfields))
    (texts-part_forms form_with_comma form_without_comma text-with_comma text-without_comma (chosen wanted subfields))

pub text-title : (subfields : List Subfield) (wanted : List ℕ) (skip : ℕ) → is_text (title_of subfields wanted skip) ≡ true
text-title subfields wanted skip =
    text-joined_words (part_forms (form_skipping skip) form_without_comma (chosen wanted subfields))
    (texts-part_forms (form_skipping skip) form_without_comma (text-skipping skip) text-without_comma (chosen wanted subfields))
