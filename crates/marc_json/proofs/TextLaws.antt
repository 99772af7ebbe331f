-- Which bytes of a record are texts.
use Rattle.std.proofs.Common.{◌≡◌, ℕ, true, List, [], ◌∷◌, nat_lt, refl, arith}
use Rattle.std.proofs.lemmas.Bool.Decides.{nat_tests}
use Rattle.std.proofs.lemmas.Str.{is_utf8-from_IsUtf8}
use Rattle.std.specs.Char.{is_ascii_alphanumeric}
use Rattle.std.specs.List.{list_all}
use Rattle.std.specs.Str.{is_utf8}
use Rattle.json.proofs.Printed.Utf8.{are_ascii, IsUtf8-are_ascii}
use Rattle.union_base.specs.Bodies.{Subfield}
use Rattle.union_base.specs.Both.{both_true, true_both}
use Rattle.union_base.specs.Fields.{is_indicator, is_subfield_code, is_subfield, is_tag_byte, is_tag}
use Rattle.marc_leader.specs.Codes.{Codes, is_printable, are_printable}
use Rattle.marc_json.specs.Values.{leader_characters}

pub ascii_text : (xs : List ℕ) → are_ascii xs ≡ true → is_utf8 xs ≡ true
ascii_text xs e = is_utf8-from_IsUtf8 xs (IsUtf8-are_ascii xs e)

low_indicator : (b : ℕ) → is_indicator b ≡ true → nat_lt b 128 ≡ true
low_indicator b h = grind (arith, nat_tests)

low_code : (b : ℕ) → is_subfield_code b ≡ true → nat_lt b 128 ≡ true
low_code b h = grind (arith, nat_tests)

low_printable : (b : ℕ) → is_printable b ≡ true → nat_lt b 128 ≡ true
low_printable b h = grind (arith, nat_tests)

low_tag_byte : (b : ℕ) → is_ascii_alphanumeric b ≡ true → nat_lt b 128 ≡ true
low_tag_byte b h = grind (arith, nat_tests)

low_tag : (tag : List ℕ) → list_all is_tag_byte tag ≡ true → are_ascii tag ≡ true
low_tag [] h = refl
low_tag (b ∷ rest) h = let p = both_true (is_tag_byte b) (list_all is_tag_byte rest) h in true_both _ _ (low_tag_byte b p.0) (low_tag rest p.1)

-- an indicator, a subfield's code, a tag and a leader are texts

pub indicator_text : (b : ℕ) → is_indicator b ≡ true → is_utf8 (b ∷ []) ≡ true
indicator_text b h = ascii_text (b ∷ []) (true_both _ _ (low_indicator b h) refl)

pub code_text : (s : Subfield) → is_subfield s ≡ true → is_utf8 (s.code ∷ []) ≡ true
code_text s h = ascii_text (s.code ∷ []) (true_both _ _ (low_code s.code (both_true (is_subfield_code s.code) _ h).0) refl)

pub tag_text : (tag : List ℕ) → is_tag tag ≡ true → is_utf8 tag ≡ true
tag_text tag h = ascii_text tag (low_tag tag (both_true _ (list_all is_tag_byte tag) h).1)

-- ASCII graphics and blanks are ASCII
printed_ascii : (xs : List ℕ) → list_all is_printable xs ≡ true → are_ascii xs ≡ true
printed_ascii [] h = refl
printed_ascii (b ∷ rest) h = let p = both_true (is_printable b) (list_all is_printable rest) h in true_both _ _ (low_printable b p.0) (printed_ascii rest p.1)

-- a byte that prints before such bytes
printed_then : (b : ℕ) (xs : List ℕ) → is_printable b ≡ true → list_all is_printable xs ≡ true → list_all is_printable (b ∷ xs) ≡ true
printed_then b xs h e = true_both (is_printable b) (list_all is_printable xs) h e

pub leader_prints : (c : Codes) → are_printable c ≡ true → list_all is_printable (leader_characters c) ≡ true
leader_prints c h =
    let p0 = both_true (is_printable c.status) _ h in
    let p1 = both_true (is_printable c.kind) _ p0.1 in
    let p2 = both_true (is_printable c.level) _ p1.1 in
    let p3 = both_true (is_printable c.control) _ p2.1 in
    let p4 = both_true (is_printable c.coding) _ p3.1 in
    let p5 = both_true (is_printable c.encoding) _ p4.1 in
    let p6 = both_true (is_printable c.form) _ p5.1 in
    let p7 = both_true (is_printable c.part) (is_printable c.last) p6.1 in
    let l7 : List ℕ = 52 ∷ 53 ∷ 48 ∷ c.last ∷ [] in
    let e7 : list_all is_printable l7 ≡ true = printed_then c.last [] p7.1 refl in
    let l6 : List ℕ = c.part ∷ l7 in
    let e6 : list_all is_printable l6 ≡ true = printed_then c.part l7 p7.0 e7 in
    let l5 : List ℕ = c.form ∷ l6 in
    let e5 : list_all is_printable l5 ≡ true = printed_then c.form l6 p6.0 e6 in
    let l4 : List ℕ = 50 ∷ 50 ∷ 48 ∷ 48 ∷ 48 ∷ 48 ∷ 48 ∷ c.encoding ∷ l5 in
    let e4 : list_all is_printable l4 ≡ true = printed_then c.encoding l5 p5.0 e5 in
    let l3 : List ℕ = c.coding ∷ l4 in
    let e3 : list_all is_printable l3 ≡ true = printed_then c.coding l4 p4.0 e4 in
    let l2 : List ℕ = c.control ∷ l3 in
    let e2 : list_all is_printable l2 ≡ true = printed_then c.control l3 p3.0 e3 in
    let l1 : List ℕ = c.level ∷ l2 in
    let e1 : list_all is_printable l1 ≡ true = printed_then c.level l2 p2.0 e2 in
    let l0 : List ℕ = c.kind ∷ l1 in
    let e0 : list_all is_printable l0 ≡ true = printed_then c.kind l1 p1.0 e1 in
    printed_then c.status l0 p0.0 e0

pub leader_text_is_utf8 : (c : Codes) → are_printable c ≡ true → is_utf8 (leader_characters c) ≡ true
leader_text_is_utf8 c h = ascii_text (leader_characters c) (printed_ascii (leader_characters c) (leader_prints c h))
