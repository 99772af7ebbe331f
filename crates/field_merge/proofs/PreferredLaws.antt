-- When one code more may follow, and what stands before the first comma.
use Rattle.std.proofs.Common.{◌≡◌, ◌≤◌, ◌<◌, ◌+◌, ◌-◌, ◌==◌, ℕ, Bool, true, false, cond, not, ◌&&◌, ◌||◌, List, [], ◌∷◌, ◌++◌, length, take, drop, replicate, refl, sym, ap, subst, ◌∙◌, arith, append_assoc, length-append}
use Rattle.std.specs.Prelude.{nat_eq, nat_le, nat_lt, Option, Some, None, MatchOption, position, if◌then◌else◌}
use Rattle.std.specs.List.{list_all, slice_split, position_or_len, before_first, after_first, onto_first, slice_set}
use Rattle.std.specs.Cmp.Lexicographic.{pointwise, nat_list_eq_equiv}
use Rattle.std.proofs.lemmas.Bool.Decides.{nat_tests}
use Rattle.std.proofs.lemmas.List.Folds.{list_any-append, list_all-append}
use Rattle.std.proofs.lemmas.List.Sums.{prefix_len-le-length}
use Rattle.std.proofs.lemmas.List.Splits.{slice_split_first}
use Rattle.std.proofs.Common.{Bor, suc, append-nil, length-set}
use Rattle.std.proofs.Math.Seq.{drop-append-add}
use Rattle.std.proofs.lemmas.List.{take_more_set, set_split, drop-replicate}
use Rattle.union_base.specs.Both.{both_true, true_both}
use Rattle.union_base.specs.LibraryCodes.{is_library_code}
use Rattle.field_merge.specs.PreferenceLaws.{unused, IsFilled, filled_size}
use Rattle.field_merge.specs.Preferences.{most_codes, has_code, are_distinct, are_preferred, texts_between_commas}

-- ---- distinct codes

flip : (x y : List ℕ) → pointwise nat_eq x y ≡ pointwise nat_eq y x
flip x y = nat_list_eq_equiv.symm x y

regroup : (a s d h : Bool) → (not (a || (s || false)) && (d && not h)) ≡ ((not a && d) && not (s || h))
regroup true s d h = refl
regroup false true true h = refl
regroup false true false h = refl
regroup false false d h = refl

-- one code more is distinct where the codes are and it is not one of them
distinct-more : (codes : List (List ℕ)) (code : List ℕ) → are_distinct (codes ++ code ∷ []) ≡ (are_distinct codes && not (has_code codes code))
distinct-more [] code = refl
distinct-more (x ∷ xs) code =
    ap (λ b. not b && are_distinct (xs ++ code ∷ [])) (list_any-append (λ other. pointwise nat_eq other x) xs (code ∷ []))
    ∙ ap (λ b. not (has_code xs x || (b || false)) && are_distinct (xs ++ code ∷ [])) (flip code x)
    ∙ ap (λ b. not (has_code xs x || (pointwise nat_eq x code || false)) && b) (distinct-more xs code)
    ∙ regroup (has_code xs x) (pointwise nat_eq x code) (are_distinct xs) (has_code xs code)

not_either : (a b : Bool) → not (a || b) ≡ true → not a ≡ true
not_either true b h = h
not_either false b h = refl

distinct-prefix : (xs ys : List (List ℕ)) → are_distinct (xs ++ ys) ≡ true → are_distinct xs ≡ true
distinct-prefix [] ys h = refl
distinct-prefix (x ∷ xs) ys h =
    let parts = both_true (not (has_code (xs ++ ys) x)) (are_distinct (xs ++ ys)) h in
    true_both (not (has_code xs x)) (are_distinct xs)
    (not_either (has_code xs x) (has_code ys x) (ap not (sym (list_any-append (λ other. pointwise nat_eq other x) xs ys)) ∙ parts.0))
    (distinct-prefix xs ys parts.1)

-- ---- codes of a preference

size-prefix : (xs ys : List (List ℕ)) → nat_le (length (xs ++ ys)) most_codes ≡ true → nat_le (length xs) most_codes ≡ true
size-prefix xs ys h = grind (arith, nat_tests, length-append xs ys)

-- where some codes are preferred, the first of them are
pub preferred-prefix : (xs ys : List (List ℕ)) → are_preferred (xs ++ ys) ≡ true → are_preferred xs ≡ true
preferred-prefix xs ys h =
    let front = both_true (nat_le (length (xs ++ ys)) most_codes && list_all is_library_code (xs ++ ys)) (are_distinct (xs ++ ys)) h in
    let two = both_true (nat_le (length (xs ++ ys)) most_codes) (list_all is_library_code (xs ++ ys)) front.0 in
    let codes = both_true (list_all is_library_code xs) (list_all is_library_code ys) (sym (list_all-append is_library_code xs ys) ∙ two.1) in
    true_both (nat_le (length xs) most_codes && list_all is_library_code xs) (are_distinct xs)
    (true_both (nat_le (length xs) most_codes) (list_all is_library_code xs) (size-prefix xs ys two.0) codes.0)
    (distinct-prefix xs ys front.1)

parts_of_preferred : (codes : List (List ℕ)) → are_preferred codes ≡ true
    → (nat_le (length codes) most_codes ≡ true) × (list_all is_library_code codes ≡ true) × (are_distinct codes ≡ true)
parts_of_preferred codes h =
    let front = both_true (nat_le (length codes) most_codes && list_all is_library_code codes) (are_distinct codes) h in
    let two = both_true (nat_le (length codes) most_codes) (list_all is_library_code codes) front.0 in
    (two.0, two.1, front.1)

not_true : (b : Bool) → (b ≡ true → ⊥) → b ≡ false
not_true true h = absurd (h refl)
not_true false h = refl

-- a code more of 64 is too many
pub full-more : (codes : List (List ℕ)) (code : List ℕ) → length codes ≡ most_codes → are_preferred (codes ++ code ∷ []) ≡ false
full-more codes code full = not_true (are_preferred (codes ++ code ∷ [])) (λ h.
    let size = (parts_of_preferred (codes ++ code ∷ []) h).0 in
    grind (arith, nat_tests, length-append codes (code ∷ [])))

-- a code does not follow twice
pub double-more : (codes : List (List ℕ)) (code : List ℕ) → has_code codes code ≡ true → are_preferred (codes ++ code ∷ []) ≡ false
double-more codes code has = not_true (are_preferred (codes ++ code ∷ [])) (λ h.
    let distinct = (parts_of_preferred (codes ++ code ∷ []) h).2 in
    let apart = (both_true (are_distinct codes) (not (has_code codes code)) (sym (distinct-more codes code) ∙ distinct)).1 in
    let clash : false ≡ true = ap not (sym has) ∙ apart in cc)

size-more : (codes : List (List ℕ)) (code : List ℕ) → length codes < most_codes → nat_le (length (codes ++ code ∷ [])) most_codes ≡ true
size-more codes code room = grind (arith, nat_tests, length-append codes (code ∷ []))

-- another code follows where there is room
pub preferred-more : (codes : List (List ℕ)) (code : List ℕ) → are_preferred codes ≡ true → length codes < most_codes → is_library_code code ≡ true
    → has_code codes code ≡ false → are_preferred (codes ++ code ∷ []) ≡ true
preferred-more codes code preferred room is apart =
    let parts = parts_of_preferred codes preferred in
    true_both (nat_le (length (codes ++ code ∷ [])) most_codes && list_all is_library_code (codes ++ code ∷ [])) (are_distinct (codes ++ code ∷ []))
    (true_both (nat_le (length (codes ++ code ∷ [])) most_codes) (list_all is_library_code (codes ++ code ∷ []))
    (size-more codes code room)
    (list_all-append is_library_code codes (code ∷ [])
    ∙ true_both (list_all is_library_code codes) (is_library_code code && true) parts.1 (true_both (is_library_code code) true is refl)))
    (distinct-more codes code ∙ true_both (are_distinct codes) (not (has_code codes code)) parts.2 (ap not apart))

-- what is read of a text is that text, and it is a code
pub read-is : (text code : List ℕ) → (if is_library_code text then Some text else None) ≡ Some code → (is_library_code text ≡ true) × (code ≡ text)
read-is text code e = by (is_library_code text) e
  where
    by : (b : Bool) → (if b then Some text else None) ≡ Some code → (b ≡ true) × (code ≡ text)
    by true e = (refl, cc)
    by false e = cc

-- ---- texts between commas

abbrev is_comma : ℕ → Bool
is_comma b = b == 0x2C

place-is : (b : Bool) (n at : ℕ) → Some at ≡ cond b (Some n) None → (b ≡ true) × (n ≡ at)
place-is true n at e = (refl, cc)
place-is false n at e = cc

no_place : (b : Bool) (n : ℕ) → None ≡ cond b (Some n) None → b ≡ false
no_place true n e = cc
no_place false n e = refl

-- the first text ends at the first comma
pub text_at : (text : List ℕ) (at : ℕ) → Some at ≡ position is_comma text
    → texts_between_commas text ≡ take at text ∷ texts_between_commas (drop (at + 1) text)
text_at text at found =
    let place = place-is _ (position_or_len is_comma text) at found in
    let within : position_or_len is_comma text < length text = grind (arith, nat_tests, place.0) in
    let split : slice_split is_comma text ≡ before_first is_comma text ∷ slice_split is_comma (after_first is_comma text) =
    slice_split_first is_comma text 0 within in
    let P : ℕ → Type 0 = λ n. slice_split is_comma text ≡ take n text ∷ slice_split is_comma (drop (n + 1) text) in
    subst P place.1 split

whole : (text : List ℕ) → position_or_len is_comma text ≡ length text → slice_split is_comma text ≡ text ∷ []
whole [] e = refl
whole (b ∷ rest) e =
    elim (is_comma b) as (λ t. cond {A = ℕ} (not t) (1 + position_or_len is_comma rest) 0 ≡ length (b ∷ rest)
    → cond t ([] ∷ slice_split is_comma rest) (onto_first b (slice_split is_comma rest)) ≡ (b ∷ rest) ∷ []) [
      | true ↦ λ h. absurd (omega arith)
      | false ↦ λ h. ap (onto_first b) (whole rest (omega arith))
    ] e

-- without a comma the text is one
pub text_whole : (text : List ℕ) → None ≡ position is_comma text → texts_between_commas text ≡ text ∷ []
text_whole text none =
    let past : nat_lt (position_or_len is_comma text) (length text) ≡ false = no_place _ (position_or_len is_comma text) none in
    let within : position_or_len is_comma text ≤ length text = prefix_len-le-length (λ b. not (is_comma b)) text in
    whole text (grind (arith, nat_tests, past, within))

-- ---- places

-- past the codes and one place more come the unused places that are left
past-more : (places : List (List ℕ)) (size : ℕ) → IsFilled places size
    → drop (size + 1) places ≡ replicate (most_codes - (size + 1)) unused
past-more places size filled =
    let front = take size places in
    let size_is : length front ≡ size = filled_size places size filled in
    ap (drop (size + 1)) filled.rest
    ∙ ap (λ n. drop (n + 1) (front ++ replicate (most_codes - size) unused)) (sym size_is)
    ∙ drop-append-add front (replicate (most_codes - size) unused) 1
    ∙ drop-replicate 1 (most_codes - size) unused
    ∙ ap (λ n. replicate n unused) {x = most_codes - size - 1} {y = most_codes - (size + 1)} (omega arith)

-- a code is written into the first unused place
pub filled-more : (places : List (List ℕ)) (size : ℕ) (code : List ℕ) → IsFilled places size → size < most_codes
    → is_library_code code ≡ true → has_code (take size places) code ≡ false → IsFilled (slice_set places size code) (size + 1)
filled-more places size code filled room is apart =
    let front = take size places in
    let size_is : length front ≡ size = filled_size places size filled in
    let within : size < length places = omega (arith, filled.whole) in
    let now : take (size + 1) (slice_set places size code) ≡ front ++ code ∷ [] = take_more_set places size code within in
    record {
      preferred = ap are_preferred now ∙ preferred-more front code filled.preferred (omega arith) is apart;
      whole = length-set places size code ∙ filled.whole;
      rest = set_split places size code within
          ∙ ap (λ xs. front ++ code ∷ xs) (ap (λ n. drop n places) {x = suc size} {y = size + 1} (omega arith) ∙ past-more places size filled)
          ∙ sym (append_assoc front (code ∷ []) (replicate (most_codes - (size + 1)) unused))
          ∙ ap (λ xs. xs ++ replicate (most_codes - (size + 1)) unused) (sym now);
      within = omega arith;
    }

-- ---- reading

-- what comes of the codes that were read and of the texts after them
abbrev pub preference_after : List (List ℕ) → List (List ℕ) → Option (List (List ℕ))
preference_after codes texts = (if are_preferred (codes ++ texts) then Some (codes ++ texts) else None)

-- a text that may not follow ends the reading
pub refused-after : (codes texts : List (List ℕ)) (text : List ℕ) → are_preferred (codes ++ text ∷ []) ≡ false
    → None ≡ preference_after codes (text ∷ texts)
refused-after codes texts text refused =
    let whole : codes ++ text ∷ texts ≡ (codes ++ text ∷ []) ++ texts = sym (append_assoc codes (text ∷ []) texts) in
    let not_all : are_preferred (codes ++ text ∷ texts) ≡ false = not_true (are_preferred (codes ++ text ∷ texts)) (λ h.
    let front : are_preferred (codes ++ text ∷ []) ≡ true = preferred-prefix (codes ++ text ∷ []) texts (ap are_preferred (sym whole) ∙ h) in
    let clash : true ≡ false = sym front ∙ refused in cc) in
    ap (λ b. if b then Some (codes ++ text ∷ texts) else None) (sym not_all)

-- a text that may follow is one of the codes
pub taken-after : (codes texts : List (List ℕ)) (text : List ℕ) → preference_after codes (text ∷ texts) ≡ preference_after (codes ++ text ∷ []) texts
taken-after codes texts text =
    ap (λ all. if are_preferred all then Some all else None) (sym (append_assoc codes (text ∷ []) texts))

-- where no text is left, the codes are the preference
pub all-after : (codes : List (List ℕ)) → are_preferred codes ≡ true → Some codes ≡ preference_after codes []
all-after codes preferred = rw (append-nil, preferred) refl

-- the texts that are left to read
abbrev pub texts_left : Option (Bor (List ℕ)) → List (List ℕ)
texts_left None = []
texts_left (Some text) = texts_between_commas text.now

pub texts-first : (more : Option (Bor (List ℕ))) (text first : List ℕ)
    → MatchOption more (texts_between_commas text ≡ first ∷ []) (λ rest. texts_between_commas text ≡ first ∷ texts_between_commas rest.now)
    → texts_between_commas text ≡ first ∷ texts_left more
texts-first None text first is = is
texts-first (Some rest) text first is = is
