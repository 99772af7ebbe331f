-- The next subfield of bytes that spell subfields.
use Rattle.std.proofs.Common.{◌≡◌, ℕ, zero, suc, ◌<◌, ◌≤◌, Bool, true, false, not, List, [], ◌∷◌, ◌++◌, length, get_or, take, drop, refl, sym, ap, ◌∙◌, subst, arith}
use Rattle.std.proofs.lemmas.Bool.Decides.{nat_tests}
use Rattle.std.proofs.lemmas.List.{append_cancel_left, take-append-drop}
use Rattle.std.specs.List.{flat_map}
use Rattle.std.specs.Prelude.{◌==◌, if◌then◌else◌}
use Rattle.union_base.specs.Bodies.{Subfield}
use Rattle.union_base.specs.Both.{true_both}
use Rattle.union_base.specs.Fields.{delimiter, spelled_subfield}
use Rattle.union_base.specs.Readings.{is_undelimited, is_end, text_in, subfield_of, subfields_in}
use Rattle.union_base.proofs.ReadingLaws.{text_in-append, subfields_in-append}

-- bytes none of which is a delimiter, seen place by place
pub undelimited-take : (bytes : List ℕ) (n : ℕ) → n ≤ length bytes → ((k : ℕ) → k < n → (get_or bytes k 0 == 0x1F) ≡ true → ⊥)
    → is_undelimited (take n bytes) ≡ true
undelimited-take bytes zero below none = refl
undelimited-take [] (suc n) below none = refl
undelimited-take (b ∷ bytes) (suc n) below none =
    let less : n ≤ length bytes = omega arith in
    let here : (b == 0x1F) ≡ true → ⊥ = none 0 (omega arith) in
    true_both _ _ (not_true (b == 0x1F) here) (undelimited-take bytes n less (λ k lt is. none (suc k) (omega arith) is))
  where
    not_true : (test : Bool) → (test ≡ true → ⊥) → not test ≡ true
    not_true true h = absurd (h refl)
    not_true false h = refl

is_delimiter : (b : ℕ) → delimiter ≡ b → (b == delimiter) ≡ true
is_delimiter b e = grind (arith, nat_tests)

delimiter_is : (b : ℕ) → (b == delimiter) ≡ true → delimiter ≡ b
delimiter_is b is = grind (arith, nat_tests)

no_delimiter : (b : ℕ) → 0 ≡ b → (b == delimiter) ≡ false
no_delimiter b e = grind (arith, nat_tests)

-- the bytes of subfields begin with a delimiter
begin_with_delimiter : (subfields : List Subfield) (b : ℕ) (bytes : List ℕ) → flat_map spelled_subfield subfields ≡ b ∷ bytes → (b == delimiter) ≡ true
begin_with_delimiter [] b bytes e = cc
begin_with_delimiter (s ∷ subfields) b bytes e = let first : delimiter ≡ b = cc in is_delimiter b first

-- what one byte alone begins, by whether it is a delimiter
abbrev single : Bool → List Subfield
single test = if test then subfield_of [] ∷ [] else []

-- no bytes have one byte alone
pub no_single : (bytes : List ℕ) → length bytes < 2 → flat_map spelled_subfield (subfields_in bytes) ≡ bytes → bytes ≡ []
no_single [] short e = refl
no_single (b ∷ []) short e =
    let is = begin_with_delimiter (subfields_in (b ∷ [])) b [] e in
    let other : delimiter ∷ 0 ∷ [] ≡ b ∷ [] = subst (λ t. flat_map spelled_subfield (single t) ≡ b ∷ []) is e in
    cc
no_single (b ∷ d ∷ bytes) short e = absurd (omega arith)

-- what a delimiter begins, by whether the byte after it is one
abbrev behind_delimiter : ℕ → List ℕ → Bool → List Subfield
behind_delimiter code behind test =
    subfield_of (if test then [] else code ∷ text_in behind) ∷ (if test then subfield_of (text_in behind) ∷ subfields_in behind else subfields_in behind)

-- a code stands after it
with_code : (code : ℕ) (behind : List ℕ) (test : Bool) → (code == delimiter) ≡ test → flat_map spelled_subfield (behind_delimiter code behind test) ≡ delimiter ∷ code ∷ behind
    → (behind_delimiter code behind test ≡ record { code = code; text = text_in behind } ∷ subfields_in behind) × (text_in behind ++ flat_map spelled_subfield (subfields_in behind) ≡ behind)
with_code code behind true is e =
    let zero_code : 0 ≡ code = cc in
    let other = no_delimiter code zero_code in
    cc
with_code code behind false is e = (refl, cc)

-- the first subfield, and the bytes of the others
pub first_subfield : (bytes behind text rest : List ℕ) (n : ℕ) → 2 ≤ length bytes → flat_map spelled_subfield (subfields_in bytes) ≡ bytes → behind ≡ drop 2 bytes
    → is_undelimited (take n behind) ≡ true → is_end (drop n behind) ≡ true → text ≡ take n behind → rest ≡ drop n behind
    → (subfields_in bytes ≡ record { code = get_or bytes 1 0; text = text } ∷ subfields_in rest) × (flat_map spelled_subfield (subfields_in rest) ≡ rest)
first_subfield [] behind text rest n long e same none end front back = absurd (omega arith)
first_subfield (b ∷ []) behind text rest n long e same none end front back = absurd (omega arith)
first_subfield (b ∷ code ∷ others) behind text rest n long e same none end front back =
    let is = begin_with_delimiter (subfields_in (b ∷ code ∷ others)) b (code ∷ others) e in
    let first : delimiter ≡ b = delimiter_is b is in
    let spelled : flat_map spelled_subfield (behind_delimiter code others (code == delimiter)) ≡ delimiter ∷ code ∷ others
    = subst (λ t. flat_map spelled_subfield (if t then behind_delimiter code others (code == delimiter) else subfields_in (code ∷ others)) ≡ b ∷ code ∷ others) is e ∙ ap (λ d. d ∷ code ∷ others) (sym first) in
    let parts = with_code code others (code == delimiter) refl spelled in
    let whole : others ≡ take n others ++ drop n others = sym (take-append-drop n others) in
    let no_more : is_undelimited (take n others) ≡ true = ap (λ t. is_undelimited (take n t)) (sym same) ∙ none in
    let ends : is_end (drop n others) ≡ true = ap (λ t. is_end (drop n t)) (sym same) ∙ end in
    let front_is : text ≡ take n others = front ∙ ap (take n) same in
    let back_is : rest ≡ drop n others = back ∙ ap (drop n) same in
    let text_is : text_in others ≡ text = ap text_in whole ∙ (text_in-append (take n others) (drop n others) no_more ends ∙ sym front_is) in
    let others_are : subfields_in others ≡ subfields_in rest = ap subfields_in whole ∙ (subfields_in-append (take n others) (drop n others) no_more ∙ ap subfields_in (sym back_is)) in
    let tail : text ++ flat_map spelled_subfield (subfields_in rest) ≡ text ++ rest
    = ap (λ t. t ++ flat_map spelled_subfield (subfields_in rest)) (sym text_is) ∙ (ap (λ ss. text_in others ++ flat_map spelled_subfield ss) (sym others_are)
    ∙ (parts.1 ∙ (whole ∙ (ap (λ t. t ++ drop n others) (sym front_is) ∙ ap (λ t. text ++ t) (sym back_is))))) in (
      subst (λ t. (if t then behind_delimiter code others (code == delimiter) else subfields_in (code ∷ others)) ≡ record { code = code; text = text } ∷ subfields_in rest) (sym is)
          (parts.0 ∙ (ap (λ t. record { code = code; text = t } ∷ subfields_in others) text_is ∙ ap (λ ss. record { code = code; text = text } ∷ ss) others_are)),
      append_cancel_left text _ _ tail,
    )
