-- What is read of a line on a refused frame.
use Rattle.std.proofs.Common.{◌≡◌, ◌≢◌, ℕ, zero, suc, ◌+◌, ◌-◌, ◌^◌, ◌<◌, ◌≤◌, Bool, true, false, not, ◌&&◌, ◌==◌, cond, nat_le, List, [], ◌∷◌, ◌++◌, length, get_or, take, drop, Some, None, append_assoc, refl, sym, ap, ◌∙◌, arith}
use Rattle.std.specs.Prelude.{IsTrue, codes, decimal}
use Rattle.std.specs.Char.{is_ascii_digit}
use Rattle.std.specs.List.{list_all, position_or_len}
use Rattle.std.proofs.lemmas.Bool.{and_parts, le-leb, ne_eqb}
use Rattle.std.proofs.lemmas.Bool.Decides.{nat_tests}
use Rattle.std.proofs.lemmas.Cmp.{nat_list_eq_equiv}
use Rattle.std.proofs.lemmas.Fmt.{decimal_digit, decimal_nonempty, first_decimal, digits_decimal, digits_value-decimal}
use Rattle.std.proofs.lemmas.Grind.{common_steps}
use Rattle.std.proofs.lemmas.List.{take_at, drop_at, get_or_append_left, get_or_at, length_push}
use Rattle.std.proofs.lemmas.List.Sums.{position_or_len_is}
use Rattle.library_batches.specs.Reports.{counted, refused_line}
use Rattle.library_batches.specs.declared.refused.RefusedFrame.{RefusedFrame}
use Rattle.marc_fields.specs.RuleNames.{rule_name}
use Rattle.marc_fields.specs.declared.rules.Rule.{Rule}
use Rattle.marc_fields.specs.declared.rules.Rule.TheVariants.{Truncated, TooLong, TooShort, LengthDigits, LengthDiffers, BaseAddress, LeaderCounts, EntryDigits, Tag, Tiling, Status, Coding, NotUtf8, ControlShape, DataShape, ControlNumber, Repeated, Fixed008, Title245}
use Rattle.union_base.specs.LibraryCodes.{is_library_code, may_stand, longest_code}
use Rattle.union_base.specs.Alike.{same_text}
use Rattle.union_words.specs.Numbers.{has_leading_zero, is_number, number_within, value_of}
use Rattle.union_words.proofs.NumberLaws.{digits_are_numerals}
use Rattle.union_explain.specs.Laws.{IsReadBack}
use Rattle.union_explain.specs.Reports.{all_told, told_by, refused_by}
use Rattle.union_base.specs.Blanks.{first_word, rest_of}
use Rattle.union_explain.specs.Rules.{rule_named}

-- no byte of the text is a blank
abbrev pub HasNoBlank : List ℕ → Type 0
HasNoBlank text = (i : ℕ) → i < length text → get_or text i 0 ≢ 0x20

-- a text of bytes that pass a test which a blank does not pass
no_blank : (p : ℕ → Bool) (text : List ℕ) → list_all p text ≡ true → p 0x20 ≡ false → HasNoBlank text
no_blank p [] all fails i lt e = absurd (omega (arith, lt))
no_blank p (b ∷ text) all fails zero lt e =
    let both = and_parts (p b) (list_all p text) all in
    let clash : true ≡ false = sym both.0 ∙ (ap p e ∙ fails) in cc
no_blank p (b ∷ text) all fails (suc i) lt e =
    let both = and_parts (p b) (list_all p text) all in
    no_blank p text both.1 fails i (omega (arith, lt)) e

blank_place : (word more : List ℕ) → HasNoBlank word → position_or_len (λ b. b == 0x20) (word ++ 0x20 ∷ more) ≡ length word
blank_place word more h =
    position_or_len_is (λ b. b == 0x20) (word ++ 0x20 ∷ more) (length word) 0 (grind (arith, common_steps))
    (λ k lt. let ne = h k lt in rw get_or_append_left (grind (arith, nat_tests))) (λ _. rw (get_or_at word 0x20 more 0 (length word) refl) refl)

first_word-at : (word more : List ℕ) → HasNoBlank word → first_word (word ++ 0x20 ∷ more) ≡ word
first_word-at word more h = ap (λ n. take n (word ++ 0x20 ∷ more)) (blank_place word more h) ∙ take_at word (0x20 ∷ more) (length word) refl

rest_of-at : (word more : List ℕ) → HasNoBlank word → rest_of (word ++ 0x20 ∷ more) ≡ more
rest_of-at word more h =
    ap (λ n. drop (n + 1) (word ++ 0x20 ∷ more)) (blank_place word more h)
    ∙ (ap (drop (length word + 1)) (sym (append_assoc word (0x20 ∷ []) more)) ∙ drop_at (word ++ 0x20 ∷ []) more (length word + 1) (length_push word 0x20))

-- a number that is written is read
no_zero : (digits : List ℕ) → 48 < get_or digits 0 0 → has_leading_zero digits ≡ false
no_zero [] h = refl
no_zero (b ∷ []) h = refl
no_zero (b ∷ c ∷ digits) h = let ne : b ≢ 0x30 = omega (arith, h) in ne_eqb b 0x30 ne

no_leading_zero : (n : ℕ) → n < 2 ^ 64 → has_leading_zero (decimal n) ≡ false
no_leading_zero zero h = ap has_leading_zero (decimal_digit 0 (omega arith))
no_leading_zero (suc n) h = no_zero (decimal (suc n)) (first_decimal (suc n) (omega arith) h)

is_number-decimal : (n : ℕ) → n < 2 ^ 64 → is_number (decimal n) ≡ true
is_number-decimal n h =
    ap (λ t. (t && list_all is_ascii_digit (decimal n)) && not (has_leading_zero (decimal n))) (le-leb 1 (length (decimal n)) (decimal_nonempty n h))
    ∙ (ap (λ t. t && not (has_leading_zero (decimal n))) (digits_decimal digits_are_numerals n h) ∙ ap not (no_leading_zero n h))

number-read : (least most n : ℕ) → n < 2 ^ 64 → least ≤ n → n ≤ most → number_within least most (decimal n) ≡ Some n
number-read least most n h l m =
    let value : value_of (decimal n) ≡ n = digits_value-decimal digits_are_numerals n h in
    ap (λ t. cond (t && (nat_le least (value_of (decimal n)) && nat_le (value_of (decimal n)) most)) (Some (value_of (decimal n))) None) (is_number-decimal n h)
    ∙ (ap (λ v. cond (nat_le least v && nat_le v most) (Some v) None) value
    ∙ (ap (λ t. cond (t && nat_le n most) (Some n) None) (le-leb least n l) ∙ ap (λ t. cond t (Some n) None) (le-leb n most m)))

-- a rule's name is read
named : (rule : Rule) → rule_named (rule_name rule) ≡ Some rule
named Truncated = refl
named TooLong = refl
named TooShort = refl
named LengthDigits = refl
named LengthDiffers = refl
named BaseAddress = refl
named LeaderCounts = refl
named EntryDigits = refl
named Tag = refl
named Tiling = refl
named Status = refl
named Coding = refl
named NotUtf8 = refl
named ControlShape = refl
named DataShape = refl
named ControlNumber = refl
named Repeated = refl
named Fixed008 = refl
named Title245 = refl

name_unbroken : (rule : Rule) → list_all (λ b. not (b == 0x20)) (rule_name rule) ≡ true
name_unbroken Truncated = refl
name_unbroken TooLong = refl
name_unbroken TooShort = refl
name_unbroken LengthDigits = refl
name_unbroken LengthDiffers = refl
name_unbroken BaseAddress = refl
name_unbroken LeaderCounts = refl
name_unbroken EntryDigits = refl
name_unbroken Tag = refl
name_unbroken Tiling = refl
name_unbroken Status = refl
name_unbroken Coding = refl
name_unbroken NotUtf8 = refl
name_unbroken ControlShape = refl
name_unbroken DataShape = refl
name_unbroken ControlNumber = refl
name_unbroken Repeated = refl
name_unbroken Fixed008 = refl
name_unbroken Title245 = refl

-- the line without the line feed that ends it
abbrev written : List ℕ → RefusedFrame → List ℕ
written library frame =
    library ++ (0x20 ∷ (codes "refused" ++ (0x20 ∷ (decimal frame.frame ++ (0x20 ∷ (rule_name frame.rule ++ (0x20 ∷ decimal frame.place)))))))

written-line : (library : List ℕ) (frame : RefusedFrame) → refused_line library frame ≡ written library frame ++ 0x0A ∷ []
unfolding refused_line counted
written-line library frame = simp append_assoc

read-line : (library : List ℕ) (frame : RefusedFrame) → IsTrue (is_library_code library) → 1 ≤ frame.frame → frame.frame < 2 ^ 64 → frame.place ≤ 99999
    → refused_by library (written library frame) ≡ Some (record { number = frame.frame; rule = frame.rule; place = frame.place })
read-line library frame code least most place =
    let code_bytes = and_parts (nat_le 1 (length library) && nat_le (length library) longest_code) (list_all may_stand library) code in
    let word = codes "refused" in
    let number = decimal frame.frame in
    let name = rule_name frame.rule in
    let at = decimal frame.place in
    let third = name ++ (0x20 ∷ at) in
    let second = number ++ (0x20 ∷ third) in
    let first = word ++ (0x20 ∷ second) in
    let line = written library frame in
    let small : frame.place < 2 ^ 64 = omega (arith, place) in
    let in_code : HasNoBlank library = no_blank may_stand library code_bytes.1 refl in
    let in_word : HasNoBlank word = no_blank (λ b. not (b == 0x20)) word refl refl in
    let in_number : HasNoBlank number = no_blank is_ascii_digit number (digits_decimal digits_are_numerals frame.frame most) refl in
    let in_name : HasNoBlank name = no_blank (λ b. not (b == 0x20)) name (name_unbroken frame.rule) refl in
    ap (λ w. cond (same_text w library && same_text (first_word (rest_of line)) word) (told_by (rest_of (rest_of line))) None) (first_word-at library first in_code)
    ∙ (ap (λ r. cond (same_text library library && same_text (first_word r) word) (told_by (rest_of r)) None) (rest_of-at library first in_code)
    ∙ (ap (λ t. cond (t && same_text (first_word first) word) (told_by (rest_of first)) None) (nat_list_eq_equiv.refl library)
    ∙ (ap (λ w. cond (same_text w word) (told_by (rest_of first)) None) (first_word-at word second in_word)
    ∙ (ap (λ t. cond t (told_by (rest_of first)) None) (nat_list_eq_equiv.refl word)
    ∙ (ap told_by (rest_of-at word second in_word)
    ∙ (ap (λ w. all_told (number_within 1 (2 ^ 64 - 1) w) (rule_named (first_word (rest_of second))) (number_within 0 99999 (rest_of (rest_of second))))
    (first_word-at number third in_number)
    ∙ (ap (λ r. all_told (number_within 1 (2 ^ 64 - 1) number) (rule_named (first_word r)) (number_within 0 99999 (rest_of r))) (rest_of-at number third in_number)
    ∙ (ap (λ w. all_told (number_within 1 (2 ^ 64 - 1) number) (rule_named w) (number_within 0 99999 (rest_of third))) (first_word-at name at in_name)
    ∙ (ap (λ r. all_told (number_within 1 (2 ^ 64 - 1) number) (rule_named name) (number_within 0 99999 r)) (rest_of-at name at in_name)
    ∙ (ap (λ n. all_told n (rule_named name) (number_within 0 99999 at)) (number-read 1 (2 ^ 64 - 1) frame.frame most least (omega (arith, most)))
    ∙ (ap (λ r. all_told (Some frame.frame) r (number_within 0 99999 at)) (named frame.rule)
    ∙ ap (λ p. all_told (Some frame.frame) (Some frame.rule) p) (number-read 0 99999 frame.place small (omega arith) place))))))))))))

pub read-back : (library : List ℕ) (frame : RefusedFrame) → IsTrue (is_library_code library) → 1 ≤ frame.frame → frame.frame < 2 ^ 64 → frame.place ≤ 99999
    → IsReadBack library frame
read-back library frame code least most place = (written library frame, written-line library frame, read-line library frame code least most place)
