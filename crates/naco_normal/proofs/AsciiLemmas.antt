-- On ASCII the steps on letters come to a test of each byte.
use Rattle.std.proofs.Common.{◌≡◌, ℕ, zero, suc, ◌+◌, ◌<◌, ◌&&◌, ◌||◌, Bool, true, false, cond, not, eqb, List, [], ◌∷◌, ◌++◌, map, length, get_or, drop, IsAscii, refl, sym, ap, subst, ◌∙◌, encode_utf8, if◌then◌else◌, ◌==◌, nat_lt, inl, inr, ◌-◌, ◌≤◌, take, take_all, length-drop, add-one, drop-cons, arith}
use Rattle.std.proofs.lemmas.Bool.{and_parts, cases_lt, agree_below_at, not-true, eqb-true, lt-ltb, le-ltb, ne_eqb}
use Rattle.std.proofs.lemmas.Bool.Decides.{nat_tests}
use Rattle.std.proofs.lemmas.Str.Ascii.{All-from_ascii, IsAscii-map, lowercase_ascii, encode_ascii}
use Rattle.std.proofs.lemmas.Str.{IsAscii-drop}
use Rattle.std.specs.Char.{is_ascii_alphanumeric, to_ascii_lowercase}
use Rattle.std.specs.List.{list_any}
use Rattle.ucd_category.proofs.Computing.{ucd_category}
use Rattle.unicode_normalization.specs.Forms.{Nfkd, nfkd}
use Rattle.unicode_normalization.proofs.FormsLemmas.{normalize-ascii}
use Rattle.caseless.specs.Caseless.{default_case_fold}
use Rattle.caseless.proofs.CaselessLemmas.{default_case_fold-ascii}
use Rattle.naco_normal.specs.Ascii.{is_ascii_deleted, is_ascii_kept, blank_mark, read_as}
use Rattle.naco_normal.specs.Normal.{comma_sign, is_dropped, plain_letters, is_letter_or_number, is_kept, folded, without_deleted, with_plain_letters, letters}
use Rattle.naco_normal.specs.Shown.{is_shown}
use Rattle.naco_normal.specs.Words.{after_gap}
use Rattle.naco_normal.proofs.WordsLemmas.{read_on}

-- a byte in lower case shows: an awaited comma where a letter or digit stands after it, and any other where it is kept
abbrev pub is_ascii_shown : ℕ → Bool → List ℕ → Bool
is_ascii_shown letter awaiting after =
    if awaiting && (letter == comma_sign) then list_any is_ascii_alphanumeric after else is_ascii_kept letter

-- the bytes in lower case, without those that are deleted
abbrev pub ascii_letters : List ℕ → List ℕ
ascii_letters [] = []
ascii_letters (b ∷ bs) = if is_ascii_deleted b then ascii_letters bs else to_ascii_lowercase b ∷ ascii_letters bs

-- two tests agree
abbrev same : Bool → Bool → Bool
same true b = b
same false b = not b

equal_from_same : (a b : Bool) → same a b ≡ true → a ≡ b
equal_from_same true true e = refl
equal_from_same true false e = cc
equal_from_same false true e = cc
equal_from_same false false e = refl

-- what the tables say of a byte is what its tests say
abbrev agrees : ℕ → Bool
agrees b =
    same (is_kept b) (is_ascii_kept b)
    && (same (is_letter_or_number b) (is_ascii_alphanumeric b)
    && (same (is_dropped b) (is_ascii_deleted b)
    && (same (is_ascii_deleted (to_ascii_lowercase b)) (is_ascii_deleted b)
    && (same (is_ascii_alphanumeric (to_ascii_lowercase b)) (is_ascii_alphanumeric b)
    && same (is_ascii_deleted b && is_ascii_alphanumeric b) false))))

abbrev agree_below : ℕ → Bool
agree_below zero = true
agree_below (suc n) = agrees n && agree_below n

agrees_on_ascii : agree_below 128 ≡ true
unfolding ucd_category
agrees_on_ascii = refl

below_agrees : (n b : ℕ) → agree_below n ≡ true → b < n → agrees b ≡ true
below_agrees zero b all h = absurd (omega arith)
below_agrees (suc n) b all h =
    elim (cases_lt b n) [
      | inl less ↦ below_agrees n b (and_parts (agrees n) (agree_below n) all).1 less
      | inr more ↦ (let last : n ≡ b = omega arith in subst (λ x. agrees x ≡ true) last (and_parts (agrees n) (agree_below n) all).0)
    ]

-- the tests of an ASCII byte
pub record Agree (b : ℕ) : Type 0 where
  pub kept : is_kept b ≡ is_ascii_kept b
  pub number : is_letter_or_number b ≡ is_ascii_alphanumeric b
  pub deleted : is_dropped b ≡ is_ascii_deleted b
  pub deleted_lower : is_ascii_deleted (to_ascii_lowercase b) ≡ is_ascii_deleted b
  pub number_lower : is_ascii_alphanumeric (to_ascii_lowercase b) ≡ is_ascii_alphanumeric b
  pub apart : (is_ascii_deleted b && is_ascii_alphanumeric b) ≡ false

pub agree_on_ascii : (b : ℕ) → b < 128 → Agree b
agree_on_ascii b h =
    let all = and_parts _ _ (below_agrees 128 b agrees_on_ascii h) in
    let numbers = and_parts _ _ all.1 in
    let deleted = and_parts _ _ numbers.1 in
    let lower = and_parts _ _ deleted.1 in
    let last = and_parts _ _ lower.1 in
    record {
      kept = equal_from_same _ _ all.0;
      number = equal_from_same _ _ numbers.0;
      deleted = equal_from_same _ _ deleted.0;
      deleted_lower = equal_from_same _ _ lower.0;
      number_lower = equal_from_same _ _ last.0;
      apart = equal_from_same _ _ last.1;
    }

-- ---- what a byte is read as

-- what `read_as` makes of a byte tells whether it is deleted, kept or a comma
abbrev told_by : ℕ → ℕ → Bool
told_by r b =
    if nat_lt blank_mark r then not (is_ascii_deleted b) && (eqb r (to_ascii_lowercase b) && (is_ascii_kept r && not (eqb r comma_sign))) else
    (if eqb r blank_mark
    then not (is_ascii_deleted b) && (not (is_ascii_kept (to_ascii_lowercase b)) && same (eqb (to_ascii_lowercase b) comma_sign) (eqb b comma_sign))
    else is_ascii_deleted b)

told : (b : ℕ) → b < 128 → told_by (read_as b) b ≡ true
told b h = agree_below_at (λ b. told_by (read_as b) b) (λ b. true) 128 b refl h

first_of : (test a b : Bool) → test ≡ true → cond test a b ≡ true → a ≡ true
first_of true a b e h = h
first_of false a b e h = cc

second_of : (test a b : Bool) → test ≡ false → cond test a b ≡ true → b ≡ true
second_of true a b e h = cc
second_of false a b e h = h

-- a byte that is kept
pub record Kept (b r : ℕ) : Type 0 where
  pub stays : is_ascii_deleted b ≡ false
  pub low : r ≡ to_ascii_lowercase b
  pub kept : is_ascii_kept r ≡ true
  pub no_comma : eqb r comma_sign ≡ false

kept_told : (b r : ℕ) → b < 128 → r ≡ read_as b → blank_mark < r → Kept b r
kept_told b r h e large =
    let test = subst (λ x. told_by x b ≡ true) (sym e) (told b h) in
    let all = first_of (nat_lt blank_mark r) _ _ (lt-ltb blank_mark r large) test in
    let letter = and_parts _ _ all in
    let low = and_parts _ _ letter.1 in
    let last = and_parts _ _ low.1 in
    record {
      stays = not-true _ letter.0;
      low = eqb-true _ _ low.0;
      kept = last.0;
      no_comma = not-true _ last.1;
    }

-- a byte that becomes a blank, but for an awaited comma
pub record Blanked (b : ℕ) : Type 0 where
  pub stays : is_ascii_deleted b ≡ false
  pub hides : is_ascii_kept (to_ascii_lowercase b) ≡ false
  pub comma : eqb (to_ascii_lowercase b) comma_sign ≡ eqb b comma_sign

blank_told : (b r : ℕ) → b < 128 → r ≡ read_as b → r ≡ blank_mark → Blanked b
blank_told b r h e blank =
    let all = subst (λ x. told_by x b ≡ true) (sym e ∙ blank) (told b h) in
    let letter = and_parts _ _ all in
    let last = and_parts _ _ letter.1 in
    record {
      stays = not-true _ letter.0;
      hides = not-true _ last.0;
      comma = equal_from_same _ _ last.1;
    }

deleted_told : (b r : ℕ) → b < 128 → r ≡ read_as b → r ≤ blank_mark → (r ≡ blank_mark → ⊥) → is_ascii_deleted b ≡ true
deleted_told b r h e small other =
    let test = subst (λ x. told_by x b ≡ true) (sym e) (told b h) in
    second_of (eqb r blank_mark) _ _ (ne_eqb r blank_mark other) (second_of (nat_lt blank_mark r) _ _ (le-ltb blank_mark r small) test)

plain_ascii : (c : ℕ) → c < 128 → plain_letters c ≡ c ∷ []
plain_ascii c h = grind (arith, nat_tests)

folded_ascii : (bs : List ℕ) → IsAscii bs → folded bs ≡ map to_ascii_lowercase bs
folded_ascii bs ascii =
    ap (λ l. nfkd (default_case_fold l)) (normalize-ascii Nfkd bs (All-from_ascii bs ascii))
    ∙ ap nfkd (default_case_fold-ascii bs (All-from_ascii bs ascii))
    ∙ normalize-ascii Nfkd (map to_ascii_lowercase bs) (All-from_ascii (map to_ascii_lowercase bs) (IsAscii-map to_ascii_lowercase bs lowercase_ascii ascii))

-- a byte in lower case, by whether it is deleted
first_letter : (c : ℕ) (rest : List ℕ) → c < 128 → (deleted : Bool) → with_plain_letters (cond (not deleted) (c ∷ rest) rest) ≡ cond deleted (with_plain_letters rest) (c ∷ with_plain_letters rest)
first_letter c rest h true = refl
first_letter c rest h false = ap (λ l. l ++ with_plain_letters rest) (plain_ascii c h)

lower_letters : (bs : List ℕ) → IsAscii bs → with_plain_letters (without_deleted (map to_ascii_lowercase bs)) ≡ ascii_letters bs
lower_letters [] ascii = refl
lower_letters (b ∷ bs) ascii =
    let c = to_ascii_lowercase b in
    let small = lowercase_ascii b (ascii 0) in
    let rest = without_deleted (map to_ascii_lowercase bs) in
    ap (λ d. with_plain_letters (cond (not d) (c ∷ rest) rest)) ((agree_on_ascii c small).deleted ∙ (agree_on_ascii b (ascii 0)).deleted_lower)
    ∙ first_letter c rest small (is_ascii_deleted b)
    ∙ ap (λ l. cond (is_ascii_deleted b) l (c ∷ l)) (lower_letters bs (λ i. ascii (suc i)))

-- the letters of an ASCII text
pub letters-ascii : (bs : List ℕ) → IsAscii bs → letters bs ≡ ascii_letters bs
letters-ascii bs ascii = ap (λ l. with_plain_letters (without_deleted l)) (folded_ascii bs ascii) ∙ lower_letters bs ascii

-- a deleted byte is no letter or digit
any_first : (b : ℕ) (deleted number : Bool) (rest : Bool) → (deleted && number) ≡ false → cond deleted rest (number || rest) ≡ (number || rest)
any_first b true false rest e = refl
any_first b true true rest e = cc
any_first b false number rest e = refl

any_cond : (deleted : Bool) (c : ℕ) (rest : List ℕ) → list_any is_letter_or_number (cond deleted rest (c ∷ rest)) ≡ cond deleted (list_any is_letter_or_number rest) (is_letter_or_number c || list_any is_letter_or_number rest)
any_cond true c rest = refl
any_cond false c rest = refl

any_ascii : (bs : List ℕ) → IsAscii bs → list_any is_letter_or_number (ascii_letters bs) ≡ list_any is_ascii_alphanumeric bs
any_ascii [] ascii = refl
any_ascii (b ∷ bs) ascii =
    let c = to_ascii_lowercase b in
    let small = lowercase_ascii b (ascii 0) in
    let here = agree_on_ascii b (ascii 0) in
    let number = (agree_on_ascii c small).number ∙ here.number_lower in
    any_cond (is_ascii_deleted b) c (ascii_letters bs)
    ∙ ap (λ r. cond (is_ascii_deleted b) r (is_letter_or_number c || r)) (any_ascii bs (λ i. ascii (suc i)))
    ∙ ap (λ n. cond (is_ascii_deleted b) (list_any is_ascii_alphanumeric bs) (n || list_any is_ascii_alphanumeric bs)) number
    ∙ any_first b (is_ascii_deleted b) (is_ascii_alphanumeric b) (list_any is_ascii_alphanumeric bs) here.apart

-- what shows in the letters is what shows in the bytes
pub is_shown-ascii : (c : ℕ) (awaiting : Bool) (bs : List ℕ) → c < 128 → IsAscii bs → is_shown c awaiting (ascii_letters bs) ≡ is_ascii_shown c awaiting bs
is_shown-ascii c awaiting bs h ascii =
    ap (λ any. cond (awaiting && eqb c comma_sign) any (is_kept c)) (any_ascii bs ascii)
    ∙ ap (λ kept. cond (awaiting && eqb c comma_sign) (list_any is_ascii_alphanumeric bs) kept) (agree_on_ascii c h).kept

-- ---- reading on over bytes

from_place : (xs : List ℕ) (i x : ℕ) → i < length xs → get_or xs i 0 ≡ x → drop i xs ≡ x ∷ drop (i + 1) xs
from_place xs i x h e = rw (add-one, drop-cons xs i 0) (ap (λ y. y ∷ drop (suc i) xs) e)

-- past a byte that is deleted
pub read_past : (text : List ℕ) (gap awaiting : Bool) (bs : List ℕ) (i b : ℕ) → i < length bs → get_or bs i 0 ≡ b → is_ascii_deleted b ≡ true
    → read_on text gap awaiting (ascii_letters (drop i bs)) ≡ read_on text gap awaiting (ascii_letters (drop (i + 1) bs))
read_past text gap awaiting bs i b h e deleted =
    ap (λ l. read_on text gap awaiting (ascii_letters l)) (from_place bs i b h e)
    ∙ ap (λ d. read_on text gap awaiting (cond d (ascii_letters (drop (i + 1) bs)) (to_ascii_lowercase b ∷ ascii_letters (drop (i + 1) bs)))) deleted

-- over any other byte
pub read_over : (text : List ℕ) (gap awaiting : Bool) (bs : List ℕ) (i b : ℕ) → IsAscii bs → i < length bs → get_or bs i 0 ≡ b → is_ascii_deleted b ≡ false
    → read_on text gap awaiting (ascii_letters (drop i bs))
    ≡ read_on (cond (is_ascii_shown (to_ascii_lowercase b) awaiting (drop (i + 1) bs)) (after_gap text gap ++ to_ascii_lowercase b ∷ []) text) (not (is_ascii_shown (to_ascii_lowercase b) awaiting (drop (i + 1) bs))) (awaiting && not (eqb (to_ascii_lowercase b) comma_sign)) (ascii_letters (drop (i + 1) bs))
read_over text gap awaiting bs i b ascii h e stays =
    let c = to_ascii_lowercase b in
    let after = drop (i + 1) bs in
    let small = lowercase_ascii b (subst (λ x. x < 128) e (ascii i)) in
    ap (λ l. read_on text gap awaiting (ascii_letters l)) (from_place bs i b h e)
    ∙ ap (λ d. read_on text gap awaiting (cond d (ascii_letters after) (c ∷ ascii_letters after))) stays
    ∙ ap (λ shown. read_on (cond shown (after_gap text gap ++ encode_utf8 c) text) (not shown) (awaiting && not (eqb c comma_sign)) (ascii_letters after)) (is_shown-ascii c awaiting after small (IsAscii-drop bs (i + 1) ascii))
    ∙ ap (λ bytes. read_on (cond (is_ascii_shown c awaiting after) (after_gap text gap ++ bytes) text) (not (is_ascii_shown c awaiting after)) (awaiting && not (eqb c comma_sign)) (ascii_letters after)) (encode_ascii c small)

-- the same as the loop has it: the byte in lower case, whether it shows, and the text after it
pub read_byte : (text new : List ℕ) (gap awaiting : Bool) (bs : List ℕ) (i b letter : ℕ) (shown : Bool) → IsAscii bs → i < length bs → get_or bs i 0 ≡ b → is_ascii_deleted b ≡ false
    → letter ≡ to_ascii_lowercase b → shown ≡ is_ascii_shown letter awaiting (drop (i + 1) bs) → new ≡ cond shown (after_gap text gap ++ letter ∷ []) text
    → read_on new (not shown) (awaiting && not (eqb letter comma_sign)) (ascii_letters (drop (i + 1) bs)) ≡ read_on text gap awaiting (ascii_letters (drop i bs))
read_byte text new gap awaiting bs i b letter shown ascii h e stays low shows made =
    let after = drop (i + 1) bs in
    let over = read_over text gap awaiting bs i b ascii h e stays in
    ap (λ t. read_on t (not shown) (awaiting && not (eqb letter comma_sign)) (ascii_letters after)) made
    ∙ ap (λ s. read_on (cond s (after_gap text gap ++ letter ∷ []) text) (not s) (awaiting && not (eqb letter comma_sign)) (ascii_letters after)) shows
    ∙ ap (λ x. read_on (cond (is_ascii_shown x awaiting after) (after_gap text gap ++ x ∷ []) text) (not (is_ascii_shown x awaiting after)) (awaiting && not (eqb x comma_sign)) (ascii_letters after)) low
    ∙ sym over

shown_kept : (letter : ℕ) (awaiting : Bool) (after : List ℕ) → eqb letter comma_sign ≡ false → is_ascii_shown letter awaiting after ≡ is_ascii_kept letter
shown_kept letter true after e = ap (λ t. cond t (list_any is_ascii_alphanumeric after) (is_ascii_kept letter)) e
shown_kept letter false after e = refl

still_awaiting : (awaiting is_comma : Bool) → is_comma ≡ false → (awaiting && not is_comma) ≡ awaiting
still_awaiting true is_comma e = ap not e
still_awaiting false is_comma e = refl

-- over a byte that is kept
pub read_kept : (text new : List ℕ) (gap awaiting : Bool) (bs : List ℕ) (i letter : ℕ) → IsAscii bs → i < length bs → letter ≡ read_as (get_or bs i 0) → blank_mark < letter
    → new ≡ after_gap text gap ++ letter ∷ []
    → read_on new false awaiting (ascii_letters (drop (i + 1) bs)) ≡ read_on text gap awaiting (ascii_letters (drop i bs))
read_kept text new gap awaiting bs i letter ascii h reads large made =
    let b = get_or bs i 0 in
    let is = kept_told b letter (ascii i) reads large in
    let after = drop (i + 1) bs in
    ap (λ a. read_on new false a (ascii_letters after)) (sym (still_awaiting awaiting (eqb letter comma_sign) is.no_comma))
    ∙ read_byte text new gap awaiting bs i b letter true ascii h refl is.stays is.low (sym (shown_kept letter awaiting after is.no_comma ∙ is.kept)) made

-- past a byte that is deleted
pub read_deleted : (text : List ℕ) (gap awaiting : Bool) (bs : List ℕ) (i letter : ℕ) → IsAscii bs → i < length bs → letter ≡ read_as (get_or bs i 0) → letter ≤ blank_mark → (letter ≡ blank_mark → ⊥)
    → read_on text gap awaiting (ascii_letters (drop (i + 1) bs)) ≡ read_on text gap awaiting (ascii_letters (drop i bs))
read_deleted text gap awaiting bs i letter ascii h reads small other =
    sym (read_past text gap awaiting bs i (get_or bs i 0) h refl (deleted_told (get_or bs i 0) letter (ascii i) reads small other))

-- what the tests of a byte make, where it is no awaited comma
other_shows : (awaiting is_comma any : Bool) → (awaiting && is_comma) ≡ false → cond (awaiting && is_comma) any false ≡ false
other_shows awaiting is_comma any e = ap (λ t. cond t any false) e

other_awaits : (awaiting is_comma : Bool) → (awaiting && is_comma) ≡ false → (awaiting && not is_comma) ≡ awaiting
other_awaits true is_comma e = ap not e
other_awaits false is_comma e = refl

shown_blank : (c : ℕ) (awaiting is_comma : Bool) (after : List ℕ) → eqb c comma_sign ≡ is_comma → is_ascii_kept c ≡ false
    → is_ascii_shown c awaiting after ≡ cond (awaiting && is_comma) (list_any is_ascii_alphanumeric after) false
shown_blank c awaiting is_comma after e hides =
    ap (λ kept. cond (awaiting && eqb c comma_sign) (list_any is_ascii_alphanumeric after) kept) hides
    ∙ ap (λ t. cond (awaiting && t) (list_any is_ascii_alphanumeric after) false) e

-- over a byte that becomes a blank
pub read_blank : (text : List ℕ) (gap awaiting : Bool) (bs : List ℕ) (i letter : ℕ) → IsAscii bs → i < length bs → letter ≡ read_as (get_or bs i 0) → letter ≡ blank_mark
    → (awaiting && eqb (get_or bs i 0) comma_sign) ≡ false
    → read_on text true awaiting (ascii_letters (drop (i + 1) bs)) ≡ read_on text gap awaiting (ascii_letters (drop i bs))
read_blank text gap awaiting bs i letter ascii h reads blank other =
    let b = get_or bs i 0 in
    let c = to_ascii_lowercase b in
    let is = blank_told b letter (ascii i) reads blank in
    let after = drop (i + 1) bs in
    ap (λ a. read_on text true a (ascii_letters after)) (sym (ap (λ t. awaiting && not t) is.comma ∙ other_awaits awaiting (eqb b comma_sign) other))
    ∙ read_byte text text gap awaiting bs i b c false ascii h refl is.stays refl
    (sym (shown_blank c awaiting (eqb b comma_sign) after is.comma is.hides ∙ other_shows awaiting (eqb b comma_sign) (list_any is_ascii_alphanumeric after) other)) refl

-- over the awaited comma
pub read_comma : (text new : List ℕ) (gap awaiting : Bool) (bs : List ℕ) (i letter : ℕ) (shown : Bool) → IsAscii bs → i < length bs → letter ≡ read_as (get_or bs i 0) → letter ≡ blank_mark
    → (awaiting && eqb (get_or bs i 0) comma_sign) ≡ true
    → shown ≡ list_any is_ascii_alphanumeric (drop (i + 1) bs) → new ≡ cond shown (after_gap text gap ++ comma_sign ∷ []) text
    → read_on new (not shown) false (ascii_letters (drop (i + 1) bs)) ≡ read_on text gap awaiting (ascii_letters (drop i bs))
read_comma text new gap awaiting bs i letter shown ascii h reads blank awaited shows made =
    let b = get_or bs i 0 in
    let c = to_ascii_lowercase b in
    let is = blank_told b letter (ascii i) reads blank in
    let after = drop (i + 1) bs in
    let any = list_any is_ascii_alphanumeric after in
    let both = and_parts awaiting (eqb b comma_sign) awaited in
    ap (λ a. read_on new (not shown) a (ascii_letters after)) (sym (ap (λ t. awaiting && not t) (is.comma ∙ both.1) ∙ ap (λ a. a && false) both.0))
    ∙ read_byte text new gap awaiting bs i b c shown ascii h refl is.stays refl
    (shows ∙ sym (shown_blank c awaiting (eqb b comma_sign) after is.comma is.hides ∙ ap (λ t. cond t any false) awaited))
    (made ∙ ap (λ x. cond shown (after_gap text gap ++ x ∷ []) text) (sym (eqb-true c comma_sign (is.comma ∙ both.1))))

-- the slice from a place on
pub slice_rest : (bs : List ℕ) (i : ℕ) → take (length bs - i) (drop i bs) ≡ drop i bs
slice_rest bs i = take_all (length bs - i) (drop i bs) (omega (arith, length-drop i bs))
