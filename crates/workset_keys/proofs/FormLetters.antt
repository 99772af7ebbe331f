-- The characters of a normal form are scalar values, whatever the characters that it is made of: what is no scalar value
-- is no letter, number, spacing mark or sign that a form keeps.
use Rattle.std.proofs.Common.{◌≡◌, ℕ, ◌<◌, Bool, true, false, cond, not, eqb, ◌||◌, List, [], ◌∷◌, ◌++◌, encode_utf8_all, refl, ap, ◌∙◌, arith}
use Rattle.std.specs.Prelude.{◌==◌}
use Rattle.std.specs.List.{list_all, list_any, slice_split, onto_first}
use Rattle.std.specs.Str.{is_utf8}
use Rattle.std.proofs.Math.Utf8.{scalar, scalars, low_scalar}
use Rattle.std.proofs.lemmas.Bool.Decides.{nat_tests}
use Rattle.std.proofs.lemmas.List.Folds.{list_all-append}
use Rattle.std.proofs.lemmas.Str.{is_utf8-from_IsUtf8}
use Rattle.ucd_table.specs.Rows.{Range, in_ranges}
use Rattle.ucd_table.proofs.Computing.{tables}
use Rattle.ucd_table.proofs.Stepped.{of_ranges, zip_stepped}
use Rattle.ucd_table.proofs.Facts.{Stepped-everywhere}
use Rattle.ucd_category.specs.declared.GeneralCategory.{GeneralCategory}
use Rattle.ucd_category.specs.declared.GeneralCategory.TheVariants.{SpacingMark}
use Rattle.ucd_category.specs.declared.GeneralCategoryGroup.TheVariants.{Letter, Number}
use Rattle.ucd_category.specs.GeneralCategory.{general_category, general_category_eq}
use Rattle.ucd_category.specs.GeneralCategoryGroup.{in_group}
use Rattle.ucd_category.proofs.GeneralCategoryLemmas.{general_category_stepped}
use Rattle.union_base.specs.Both.{both_true, true_both}
use Rattle.naco_normal.specs.declared.form.Comma.{Comma}
use Rattle.naco_normal.specs.declared.form.Comma.TheVariants.{First, None as NoComma}
use Rattle.naco_normal.specs.Normal.{Mark, comma_sign, is_letter_or_number, is_kept, kept_marked, first_comma_marked, comma_marked, others_blank, letters, normal_form}
use Rattle.naco_normal.specs.Words.{joined_words, joined}
use Rattle.union_base.specs.Blanks.{blank}
use Rattle.naco_normal.proofs.WordsLemmas.{joined_words-cons}

-- ---- what is kept

-- the scalar values
abbrev scalar_ranges : List Range
scalar_ranges = (0, 0xD7FF) ∷ (0xE000, 0x10FFFF) ∷ []

-- a letter, a number or a spacing mark
abbrev is_kept_kind : GeneralCategory → Bool
is_kept_kind v = in_group Letter v || in_group Number v || general_category_eq v SpacingMark

kind-in_ranges : (c : ℕ) → (not (is_kept_kind (general_category c)) || in_ranges scalar_ranges c) ≡ true
unfolding tables general_category_stepped
kind-in_ranges c =
    let both = zip_stepped (λ v inside. not (is_kept_kind v) || inside) general_category (in_ranges scalar_ranges) general_category_stepped (of_ranges scalar_ranges refl) in
    Stepped-everywhere _ both refl c

scalar-in_ranges : (c : ℕ) → in_ranges scalar_ranges c ≡ true → scalar c ≡ true
unfolding in_ranges
scalar-in_ranges c h = grind (arith, nat_tests)

holds : (a b : Bool) → (not a || b) ≡ true → a ≡ true → b ≡ true
holds true b h e = h
holds false b h e = cc

scalar-kind : (c : ℕ) → is_kept_kind (general_category c) ≡ true → scalar c ≡ true
scalar-kind c h = scalar-in_ranges c (holds (is_kept_kind (general_category c)) (in_ranges scalar_ranges c) (kind-in_ranges c) h)

-- a sign that is kept
scalar-sign : (c : ℕ) (kind : Bool) → (kind ≡ true → scalar c ≡ true)
    → (kind || (c == 0x26) || (c == 0x2B) || (c == 0x40) || (c == 0x23) || (c == 0x266D) || (c == 0x266F)) ≡ true → scalar c ≡ true
scalar-sign c true is h = is refl
scalar-sign c false is h = let low : c < 55296 = grind (arith, nat_tests) in low_scalar c low

scalar-kept : (c : ℕ) → is_kept c ≡ true → scalar c ≡ true
scalar-kept c h = scalar-sign c (is_kept_kind (general_category c)) (scalar-kind c) h

-- ---- words

-- texts of some kind, among them the blank and each two in a row, make a text of the kind when they are joined
module _ (p : List ℕ → Bool) (none : p [] ≡ true) (one : p (blank ∷ []) ≡ true)
    (add : (a b : List ℕ) → p a ≡ true → p b ≡ true → p (a ++ b) ≡ true) where
  joined-all : (text more : List ℕ) → p text ≡ true → p more ≡ true → p (joined text more) ≡ true
  joined-all text [] f g = f
  joined-all [] (c ∷ cs) f g = g
  joined-all (b ∷ bs) (c ∷ cs) f g = add (b ∷ bs ++ blank ∷ []) (c ∷ cs) (add (b ∷ bs) (blank ∷ []) f one) g

  pub joined_words-all : (words : List (List ℕ)) → list_all p words ≡ true → p (joined_words words) ≡ true
  joined_words-all [] h = none
  joined_words-all (w ∷ ws) h =
      let parts = both_true (p w) (list_all p ws) h in
      ap p (joined_words-cons w ws) ∙ joined-all w (joined_words ws) parts.0 (joined_words-all ws parts.1)

-- ---- forms

abbrev are_scalars : List ℕ → Bool
are_scalars = list_all scalar

scalars-append : (a b : List ℕ) → are_scalars a ≡ true → are_scalars b ≡ true → are_scalars (a ++ b) ≡ true
scalars-append a b f g = list_all-append scalar a b ∙ true_both (are_scalars a) (are_scalars b) f g

scalars-onto_first : (c : ℕ) (ws : List (List ℕ)) → scalar c ≡ true → list_all are_scalars ws ≡ true → list_all are_scalars (onto_first c ws) ≡ true
scalars-onto_first c [] f g = true_both (are_scalars (c ∷ [])) true (true_both (scalar c) true f refl) refl
scalars-onto_first c (w ∷ ws) f g =
    let parts = both_true (are_scalars w) (list_all are_scalars ws) g in
    true_both (are_scalars (c ∷ w)) (list_all are_scalars ws) (true_both (scalar c) (are_scalars w) f parts.0) parts.1

scalars-split : (p : ℕ → Bool) (cs : List ℕ) → are_scalars cs ≡ true → list_all are_scalars (slice_split p cs) ≡ true
scalars-split p [] h = refl
scalars-split p (c ∷ cs) h =
    let parts = both_true (scalar c) (are_scalars cs) h in
    elim (p c) as (λ b. list_all are_scalars (cond b ([] ∷ slice_split p cs) (onto_first c (slice_split p cs))) ≡ true) [
      | true ↦ scalars-split p cs parts.1
      | false ↦ scalars-onto_first c (slice_split p cs) parts.0 (scalars-split p cs parts.1)
    ]

-- what is kept is a scalar value
abbrev may_show : Mark → Bool
may_show m = not m.kept || scalar m.char

scalar-shown : (kept : Bool) (c : ℕ) → (not kept || scalar c) ≡ true → scalar (cond kept c blank) ≡ true
scalar-shown true c h = h
scalar-shown false c h = refl

scalars-others_blank : (ms : List Mark) → list_all may_show ms ≡ true → are_scalars (others_blank ms) ≡ true
scalars-others_blank [] h = refl
scalars-others_blank (m ∷ ms) h =
    let parts = both_true (may_show m) (list_all may_show ms) h in
    true_both (scalar (cond m.kept m.char blank)) (are_scalars (others_blank ms)) (scalar-shown m.kept m.char parts.0) (scalars-others_blank ms parts.1)

show-kept : (cs : List ℕ) → list_all may_show (kept_marked cs) ≡ true
show-kept [] = refl
show-kept (c ∷ cs) =
    true_both (not (is_kept c) || scalar c) (list_all may_show (kept_marked cs))
    (elim (is_kept c) as (λ b. is_kept c ≡ b → (not b || scalar c) ≡ true) [ true ↦ λ e. scalar-kept c e | false ↦ λ e. refl ] refl)
    (show-kept cs)

show-first_comma : (ms : List Mark) → list_all may_show ms ≡ true → list_all may_show (first_comma_marked ms) ≡ true
show-first_comma [] h = refl
show-first_comma (m ∷ ms) h =
    let parts = both_true (may_show m) (list_all may_show ms) h in
    elim (eqb m.char comma_sign) as (λ b. eqb m.char comma_sign ≡ b
    → list_all may_show (cond b (record { char = m.char; kept = list_any (λ after. is_letter_or_number after.char) ms } ∷ ms) (m ∷ first_comma_marked ms)) ≡ true) [
      | true ↦ λ e.
          (let low : m.char < 55296 = grind (arith, nat_tests) in
          let comma : scalar m.char ≡ true = low_scalar m.char low in
          let kept = list_any (λ after. is_letter_or_number after.char) ms in
          true_both (not kept || scalar m.char) (list_all may_show ms)
          (elim kept as (λ k. (not k || scalar m.char) ≡ true) [ true ↦ comma | false ↦ refl ]) parts.1)
      | false ↦ λ e. true_both (may_show m) (list_all may_show (first_comma_marked ms)) parts.0 (show-first_comma ms parts.1)
    ] refl

show-comma : (comma : Comma) (cs : List ℕ) → list_all may_show (comma_marked comma (kept_marked cs)) ≡ true
show-comma First cs = show-first_comma (kept_marked cs) (show-kept cs)
show-comma NoComma cs = show-kept cs

scalars-form : (comma : Comma) (cs : List ℕ) → are_scalars (normal_form comma cs) ≡ true
scalars-form comma cs =
    let marked = comma_marked comma (kept_marked (letters cs)) in
    joined_words-all are_scalars refl refl scalars-append (slice_split (λ c. eqb c blank) (others_blank marked))
    (scalars-split (λ c. eqb c blank) (others_blank marked) (scalars-others_blank marked (show-comma comma (letters cs))))

scalars-all : (cs : List ℕ) → are_scalars cs ≡ true → scalars cs ≡ true
scalars-all [] h = refl
scalars-all (c ∷ cs) h =
    let parts = both_true (scalar c) (are_scalars cs) h in
    true_both (scalar c) (scalars cs) parts.0 (scalars-all cs parts.1)

-- a form is written in UTF-8
pub utf8-form : (comma : Comma) (cs : List ℕ) → is_utf8 (encode_utf8_all (normal_form comma cs)) ≡ true
utf8-form comma cs =
    is_utf8-from_IsUtf8 (encode_utf8_all (normal_form comma cs)) (normal_form comma cs, (scalars-all (normal_form comma cs) (scalars-form comma cs), refl))
