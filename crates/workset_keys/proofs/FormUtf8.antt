-- The forms of names and titles are UTF-8.
use Rattle.std.proofs.Common.{◌≡◌, ℕ, zero, suc, ◌<◌, Bool, true, false, cond, eqb, List, [], ◌∷◌, ◌++◌, refl, map, arith}
use Rattle.std.specs.Prelude.{chars, nat_lt}
use Rattle.std.specs.List.{list_all}
use Rattle.std.specs.Str.{IsAscii, is_utf8}
use Rattle.std.proofs.lemmas.Bool.Decides.{nat_tests}
use Rattle.std.proofs.lemmas.Str.{IsUtf8-from_is_utf8, is_utf8-from_IsUtf8, IsUtf8-nil, IsUtf8-append, IsUtf8-from_ascii}
use Rattle.union_base.specs.Both.{both_true, true_both}
use Rattle.union_base.specs.Bodies.{Subfield}
use Rattle.naco_normal.specs.declared.form.Comma.TheVariants.{First, None as NoComma}
use Rattle.naco_normal.specs.Words.{joined_words}
use Rattle.union_base.specs.Blanks.{blank}
use Rattle.naco_normal.specs.Heading.{chosen, main_code, part_forms, form_with_comma, form_without_comma, form_skipping, skipped, heading_of, title_of}
use Rattle.workset_keys.proofs.FormLetters.{joined_words-all, utf8-form}

pub utf8-either : (b : Bool) (x y : List ℕ) → is_utf8 x ≡ true → is_utf8 y ≡ true → is_utf8 (cond b x y) ≡ true
utf8-either true x y p q = p
utf8-either false x y p q = q

pub utf8-append : (a b : List ℕ) → is_utf8 a ≡ true → is_utf8 b ≡ true → is_utf8 (a ++ b) ≡ true
utf8-append a b p q = is_utf8-from_IsUtf8 (a ++ b) (IsUtf8-append a b (IsUtf8-from_is_utf8 a p) (IsUtf8-from_is_utf8 b q))

pub utf8-three : (a b d : List ℕ) → is_utf8 a ≡ true → is_utf8 b ≡ true → is_utf8 d ≡ true → is_utf8 (a ++ b ++ d) ≡ true
utf8-three a b d p q r = utf8-append (a ++ b) d (utf8-append a b p q) r

pub utf8-nil : is_utf8 [] ≡ true
utf8-nil = is_utf8-from_IsUtf8 [] IsUtf8-nil

all_low : (t : List ℕ) → list_all (λ b. nat_lt b 128) t ≡ true → IsAscii t
all_low [] all i = below
  where
    below : 0 < 128
    below = omega arith
all_low (b ∷ t) all zero = low b (both_true (nat_lt b 128) (list_all (λ x. nat_lt x 128) t) all).0
  where
    low : (n : ℕ) → nat_lt n 128 ≡ true → n < 128
    low n h = grind (arith, nat_tests)
all_low (b ∷ t) all (suc i) = all_low t (both_true (nat_lt b 128) (list_all (λ x. nat_lt x 128) t) all).1 i

pub utf8-low : (text : List ℕ) → list_all (λ b. nat_lt b 128) text ≡ true → is_utf8 text ≡ true
utf8-low text low = is_utf8-from_IsUtf8 text (IsUtf8-from_ascii text (all_low text low))

-- ---- headings and titles

utf8-joined_words : (words : List (List ℕ)) → list_all is_utf8 words ≡ true → is_utf8 (joined_words words) ≡ true
utf8-joined_words words h = joined_words-all is_utf8 utf8-nil (utf8-low (blank ∷ []) refl) utf8-append words h

utf8-part_forms : (first other : List ℕ → List ℕ) → ((text : List ℕ) → is_utf8 (first text) ≡ true) → ((text : List ℕ) → is_utf8 (other text) ≡ true)
    → (ss : List Subfield) → list_all is_utf8 (part_forms first other ss) ≡ true
utf8-part_forms first other p q [] = refl
utf8-part_forms first other p q (s ∷ ss) =
    elim (eqb s.code main_code) as (λ b. list_all is_utf8 (cond b (first s.text ∷ map (λ rest. other rest.text) ss) (other s.text ∷ part_forms first other ss)) ≡ true) [
      | true ↦ true_both (is_utf8 (first s.text)) (list_all is_utf8 (map (λ rest. other rest.text) ss)) (p s.text) (utf8-map ss)
      | false ↦ true_both (is_utf8 (other s.text)) (list_all is_utf8 (part_forms first other ss)) (q s.text) (utf8-part_forms first other p q ss)
    ]
  where
    utf8-map : (xs : List Subfield) → list_all is_utf8 (map (λ rest. other rest.text) xs) ≡ true
    utf8-map [] = refl
    utf8-map (x ∷ xs) = true_both (is_utf8 (other x.text)) (list_all is_utf8 (map (λ rest. other rest.text) xs)) (q x.text) (utf8-map xs)

utf8-with_comma : (text : List ℕ) → is_utf8 (form_with_comma text) ≡ true
utf8-with_comma text = utf8-form First (chars text)

utf8-without_comma : (text : List ℕ) → is_utf8 (form_without_comma text) ≡ true
utf8-without_comma text = utf8-form NoComma (chars text)

utf8-skipping : (skip : ℕ) (text : List ℕ) → is_utf8 (form_skipping skip text) ≡ true
utf8-skipping skip text = utf8-form NoComma (skipped skip (chars text))

pub utf8-heading : (subfields : List Subfield) (wanted : List ℕ) → is_utf8 (heading_of subfields wanted) ≡ true
utf8-heading subfields wanted =
    utf8-joined_words (part_forms form_with_comma form_without_comma (chosen wanted subfields))
    (utf8-part_forms form_with_comma form_without_comma utf8-with_comma utf8-without_comma (chosen wanted subfields))

pub utf8-title : (subfields : List Subfield) (wanted : List ℕ) (skip : ℕ) → is_utf8 (title_of subfields wanted skip) ≡ true
utf8-title subfields wanted skip =
    utf8-joined_words (part_forms (form_skipping skip) form_without_comma (chosen wanted subfields))
    (utf8-part_forms (form_skipping skip) form_without_comma (utf8-skipping skip) utf8-without_comma (chosen wanted subfields))
