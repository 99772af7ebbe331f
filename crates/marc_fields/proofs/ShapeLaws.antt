-- The bytes of a field and their shape.
use Rattle.std.proofs.Common.{◌≡◌, ℕ, suc, ◌-◌, ◌<◌, ◌≤◌, Bool, true, false, not, ◌&&◌, List, [], ◌∷◌, ◌++◌, length, get_or, drop, refl, sym, ◌∙◌, ap, subst, arith}
use Rattle.std.proofs.Math.Seq.{take-length, drop-cons}
use Rattle.std.proofs.lemmas.Bool.{and_parts, and_from}
use Rattle.std.proofs.lemmas.Bool.Decides.{nat_tests}
use Rattle.std.proofs.lemmas.List.Folds.{list_all-append, list_all_at}
use Rattle.std.specs.List.{flat_map, list_all}
use Rattle.std.specs.Prelude.{◌||◌, ◌==◌, nat_le, if◌then◌else◌}
use Rattle.union_base.specs.Fields.{is_text, is_text_byte, is_subfield, is_subfield_code, spelled_subfield, spelled, fits_tag, is_tag, is_control_tag, is_indicator, is_field}
use Rattle.union_base.specs.declared.field.Field.{Field}
use Rattle.union_base.specs.Bodies.{Subfield, Body, Control, Data}
use Rattle.union_base.specs.Readings.{text_in, subfield_of, subfields_in, body_in, IsSpelling}
use Rattle.union_base.proofs.ReadingLaws.{body_in-control}
use Rattle.union_base.proofs.SubfieldLaws.{undelimited-take}
use Rattle.marc_fields.specs.Shapes.{is_inner, are_inner, begins_with_code, begins_with_delimiter, are_coded, are_indicated, has_control_shape, has_data_shape, has_shape}

-- leading bytes without a delimiter ask nothing
pub are_coded-append : (text rest : List ℕ) → has_control_shape text ≡ true → are_coded (text ++ rest) ≡ are_coded rest
are_coded-append [] rest none = refl
are_coded-append (b ∷ text) rest none =
    let parts = and_parts (not (b == 0x1F)) (has_control_shape text) none in
    rw (parts.0, are_coded-append text rest parts.1) refl

-- a code is no delimiter
code_undelimited : (code : ℕ) → is_subfield_code code ≡ true → (code == 0x1F) ≡ false
code_undelimited code fits = grind (arith, nat_tests)

-- a leading subfield asks nothing more
pub are_coded-first : (code : ℕ) (text rest : List ℕ) → is_subfield_code code ≡ true → has_control_shape text ≡ true
    → are_coded (0x1F ∷ code ∷ (text ++ rest)) ≡ are_coded rest
are_coded-first code text rest fits none =
    rw (fits, code_undelimited code fits, are_coded-append text rest none) refl

-- an inner byte that is no delimiter may stand in a text
text_byte : (b : ℕ) → is_inner b ≡ true → not (b == 0x1F) ≡ true → is_text_byte b ≡ true
text_byte b inner none = grind (arith, nat_tests)

text_byte_undelimited : (b : ℕ) → is_text_byte b ≡ true → not (b == 0x1F) ≡ true
text_byte_undelimited b is = grind (arith, nat_tests)

text_byte_inner : (b : ℕ) → is_text_byte b ≡ true → is_inner b ≡ true
text_byte_inner b is = grind (arith, nat_tests)

pub is_text-inner : (text : List ℕ) → are_inner text ≡ true → has_control_shape text ≡ true → is_text text ≡ true
is_text-inner [] inner none = refl
is_text-inner (b ∷ text) inner none =
    let i = and_parts (is_inner b) (are_inner text) inner in
    let n = and_parts (not (b == 0x1F)) (has_control_shape text) none in
    and_from _ _ (text_byte b i.0 n.0) (is_text-inner text i.1 n.1)

pub undelimited-is_text : (text : List ℕ) → is_text text ≡ true → has_control_shape text ≡ true
undelimited-is_text [] is = refl
undelimited-is_text (b ∷ text) is =
    let parts = and_parts (is_text_byte b) (is_text text) is in
    and_from _ _ (text_byte_undelimited b parts.0) (undelimited-is_text text parts.1)

pub inner-is_text : (text : List ℕ) → is_text text ≡ true → are_inner text ≡ true
inner-is_text [] is = refl
inner-is_text (b ∷ text) is =
    let parts = and_parts (is_text_byte b) (is_text text) is in
    and_from _ _ (text_byte_inner b parts.0) (inner-is_text text parts.1)

-- a byte and the next one, and the bytes from there on
pub coded-step : (bytes : List ℕ) (at : ℕ) → 1 ≤ at → at < length bytes
    → are_coded (drop (at - 1) bytes) ≡ (not ((get_or bytes (at - 1) 0 == 0x1F) && not (is_subfield_code (get_or bytes at 0))) && are_coded (drop at bytes))
coded-step bytes at some below =
    let one : suc (at - 1) ≡ at = omega arith in
    let here : drop (at - 1) bytes ≡ get_or bytes (at - 1) 0 ∷ drop at bytes
    = drop-cons bytes (at - 1) 0 (omega arith) ∙ ap (λ n. get_or bytes (at - 1) 0 ∷ drop n bytes) one in
    let next : begins_with_code (drop at bytes) ≡ is_subfield_code (get_or bytes at 0) = ap begins_with_code (drop-cons bytes at 0 below) in
    ap are_coded here
    ∙ ap (λ b. b && are_coded (drop at bytes))
    (ap (λ b. not (get_or bytes (at - 1) 0 == 0x1F) || b) next ∙ turned (get_or bytes (at - 1) 0 == 0x1F) (is_subfield_code (get_or bytes at 0)))
  where
    turned : (delimits codes : Bool) → (not delimits || codes) ≡ not (delimits && not codes)
    turned true true = refl
    turned true false = refl
    turned false codes = refl

-- an indicator is no delimiter
indicator_undelimited : (b : ℕ) → is_indicator b ≡ true → (b == 0x1F) ≡ false
indicator_undelimited b is = grind (arith, nat_tests)

-- the bytes of a data field: two indicators and a delimiter, and a code after each delimiter
pub data_shape-parts : (bytes : List ℕ) → (are_indicated bytes && are_coded bytes) ≡ has_data_shape bytes
data_shape-parts [] = refl
data_shape-parts (b ∷ []) = refl
data_shape-parts (ind1 ∷ ind2 ∷ rest) = of (is_indicator ind1) refl (is_indicator ind2) refl
  where
    of : (one : Bool) → is_indicator ind1 ≡ one → (two : Bool) → is_indicator ind2 ≡ two
        → (((one && two) && begins_with_delimiter rest) && are_coded (ind1 ∷ ind2 ∷ rest)) ≡ ((one && two) && (begins_with_delimiter rest && are_coded rest))
    of false first two second = refl
    of true first false second = refl
    of true first true second = rw (indicator_undelimited ind1 first, indicator_undelimited ind2 second) refl

-- subfields that were spelled have a code after each delimiter
pub are_coded-subfields : (subfields : List Subfield) → list_all is_subfield subfields ≡ true → are_coded (flat_map spelled_subfield subfields) ≡ true
are_coded-subfields [] formed = refl
are_coded-subfields (s ∷ subfields) formed =
    let parts = and_parts (is_subfield s) (list_all is_subfield subfields) formed in
    let one = and_parts (is_subfield_code s.code) (is_text s.text) parts.0 in
    are_coded-first s.code s.text (flat_map spelled_subfield subfields) one.0 (undelimited-is_text s.text one.1)
    ∙ are_coded-subfields subfields parts.1

-- the text and the subfields that are read in bytes are the bytes, where a code follows each delimiter
coded-spelled : (bytes : List ℕ) → are_coded bytes ≡ true → text_in bytes ++ flat_map spelled_subfield (subfields_in bytes) ≡ bytes
coded-spelled [] coded = refl
coded-spelled (b ∷ bytes) coded =
    let parts = and_parts (not (b == 0x1F) || begins_with_code bytes) (are_coded bytes) coded in
    step b bytes (b == 0x1F) refl parts.0 (coded-spelled bytes parts.1)
  where
    is_delimiter : (b : ℕ) → (b == 0x1F) ≡ true → b ≡ 0x1F
    is_delimiter b is = grind (arith, nat_tests)

    subfield_text : (t : List ℕ) (code : ℕ) (text : List ℕ) → t ≡ code ∷ text → spelled_subfield (subfield_of t) ≡ 0x1F ∷ t
    subfield_text t code text e = subst (λ u. spelled_subfield (subfield_of u) ≡ 0x1F ∷ u) (sym e) refl

    step : (b : ℕ) (bytes : List ℕ) (test : Bool) → (b == 0x1F) ≡ test → (not test || begins_with_code bytes) ≡ true
        → text_in bytes ++ flat_map spelled_subfield (subfields_in bytes) ≡ bytes
        → (if test then [] else b ∷ text_in bytes) ++ flat_map spelled_subfield (if test then subfield_of (text_in bytes) ∷ subfields_in bytes else subfields_in bytes) ≡ b ∷ bytes
    step b bytes false is begins rest = ap (λ t. b ∷ t) rest
    step b [] true is begins rest = cc
    step b (code ∷ behind) true is begins rest =
        let other : text_in (code ∷ behind) ≡ code ∷ text_in behind = rw (code_undelimited code begins) refl in
        ap (λ t. t ++ flat_map spelled_subfield (subfields_in (code ∷ behind))) (subfield_text (text_in (code ∷ behind)) code (text_in behind) other)
        ∙ (ap (λ t. 0x1F ∷ t) rest ∙ ap (λ d. d ∷ code ∷ behind) (sym (is_delimiter b is)))

-- the text that is read in inner bytes is one
text_in-is_text : (bytes : List ℕ) → are_inner bytes ≡ true → is_text (text_in bytes) ≡ true
text_in-is_text [] inner = refl
text_in-is_text (b ∷ bytes) inner =
    let parts = and_parts (is_inner b) (are_inner bytes) inner in
    step b bytes (b == 0x1F) refl parts.0 (text_in-is_text bytes parts.1)
  where
    step : (b : ℕ) (bytes : List ℕ) (test : Bool) → (b == 0x1F) ≡ test → is_inner b ≡ true → is_text (text_in bytes) ≡ true
        → is_text (if test then [] else b ∷ text_in bytes) ≡ true
    step b bytes true is inner rest = refl
    step b bytes false is inner rest = and_from _ _ (text_byte b inner (ap not is)) rest

-- and so are the subfields
subfields_in-formed : (bytes : List ℕ) → are_coded bytes ≡ true → are_inner bytes ≡ true → list_all is_subfield (subfields_in bytes) ≡ true
subfields_in-formed [] coded inner = refl
subfields_in-formed (b ∷ bytes) coded inner =
    let parts = and_parts (not (b == 0x1F) || begins_with_code bytes) (are_coded bytes) coded in
    let inside = and_parts (is_inner b) (are_inner bytes) inner in
    step b bytes (b == 0x1F) parts.0 inside.1 (subfields_in-formed bytes parts.1 inside.1)
  where
    formed : (t : List ℕ) (code : ℕ) (text : List ℕ) → t ≡ code ∷ text → is_subfield_code code ≡ true → is_text text ≡ true → is_subfield (subfield_of t) ≡ true
    formed t code text e fits is = subst (λ u. is_subfield (subfield_of u) ≡ true) (sym e) (and_from _ _ fits is)

    step : (b : ℕ) (bytes : List ℕ) (test : Bool) → (not test || begins_with_code bytes) ≡ true → are_inner bytes ≡ true → list_all is_subfield (subfields_in bytes) ≡ true
        → list_all is_subfield (if test then subfield_of (text_in bytes) ∷ subfields_in bytes else subfields_in bytes) ≡ true
    step b bytes false begins inner rest = rest
    step b [] true begins inner rest = cc
    step b (code ∷ behind) true begins inner rest =
        let other : text_in (code ∷ behind) ≡ code ∷ text_in behind = rw (code_undelimited code begins) refl in
        and_from _ _ (formed (text_in (code ∷ behind)) code (text_in behind) other begins (text_in-is_text behind (and_parts (is_inner code) (are_inner behind) inner).1)) rest

-- bytes of the shape that a tag asks for spell a content that fits it
pub shaped-spelled : (tag bytes : List ℕ) → are_inner bytes ≡ true → has_shape tag bytes ≡ true → (IsSpelling bytes) × (fits_tag tag (body_in bytes) ≡ true)
shaped-spelled tag bytes inner shaped = by_tag (is_control_tag tag) refl shaped
  where
    one_more : (n : ℕ) → nat_le 1 (suc n) ≡ true
    one_more n = grind (arith, nat_tests)

    data_spelled : (bytes : List ℕ) → is_control_tag tag ≡ false → are_inner bytes ≡ true → has_data_shape bytes ≡ true → (IsSpelling bytes) × (fits_tag tag (body_in bytes) ≡ true)
    data_spelled [] other inner shaped = cc
    data_spelled (ind1 ∷ []) other inner shaped = cc
    data_spelled (ind1 ∷ ind2 ∷ []) other inner shaped =
        let parts = and_parts (is_indicator ind1 && is_indicator ind2) false shaped in
        cc
    data_spelled (ind1 ∷ ind2 ∷ b ∷ bytes) other inner shaped =
        let both = and_parts (is_indicator ind1 && is_indicator ind2) ((b == 0x1F) && are_coded (b ∷ bytes)) shaped in
        let coded = and_parts (b == 0x1F) (are_coded (b ∷ bytes)) both.1 in
        let inside = and_parts (is_inner ind1) (are_inner (ind2 ∷ b ∷ bytes)) inner in
        let behind = (and_parts (is_inner ind2) (are_inner (b ∷ bytes)) inside.1).1 in
        let read : body_in (ind1 ∷ ind2 ∷ b ∷ bytes) ≡ Data ind1 ind2 (subfields_in (b ∷ bytes)) = rw coded.0 refl in
        let none : text_in (b ∷ bytes) ≡ [] = rw coded.0 refl in
        let whole : flat_map spelled_subfield (subfields_in (b ∷ bytes)) ≡ b ∷ bytes
        = ap (λ t. t ++ flat_map spelled_subfield (subfields_in (b ∷ bytes))) (sym none) ∙ coded-spelled (b ∷ bytes) coded.1 in
        let some : nat_le 1 (length (subfields_in (b ∷ bytes))) ≡ true = rw coded.0 (one_more (length (subfields_in bytes))) in (
          ap spelled read ∙ ap (λ t. ind1 ∷ ind2 ∷ t) whole,
          ap (fits_tag tag) read ∙ and_from _ _ (ap not other) (and_from _ _ both.0 (and_from _ _ some (subfields_in-formed (b ∷ bytes) coded.1 behind))),
        )

    by_tag : (control : Bool) → is_control_tag tag ≡ control → (if control then has_control_shape bytes else has_data_shape bytes) ≡ true → (IsSpelling bytes) × (fits_tag tag (body_in bytes) ≡ true)
    by_tag true control shaped =
        let is = is_text-inner bytes inner shaped in
        let read = body_in-control bytes is in
        (ap spelled read, ap (fits_tag tag) read ∙ and_from _ _ control is)
    by_tag false other shaped = data_spelled bytes other inner shaped

-- a delimiter at a place
pub delimited-at : (bytes : List ℕ) (k : ℕ) → k < length bytes → (get_or bytes k 0 == 0x1F) ≡ true → has_control_shape bytes ≡ false
delimited-at bytes k below is = list_all_at (λ b. not (b == 0x1F)) bytes k 0 below (ap not is)

-- no delimiter at any place
pub undelimited-all : (bytes : List ℕ) → ((k : ℕ) → k < length bytes → (get_or bytes k 0 == 0x1F) ≡ true → ⊥) → has_control_shape bytes ≡ true
undelimited-all bytes none =
    subst (λ b. has_control_shape b ≡ true) (take-length bytes) (undelimited-take bytes (length bytes) (omega arith) none)

-- a field that was spelled has the shape that its tag asks for
has_shape-spelled_body : (tag : List ℕ) (body : Body) → is_field tag body ≡ true → has_shape tag (spelled body) ≡ true
has_shape-spelled_body tag (Control text) is =
    let fits = and_parts (is_control_tag tag) (is_text text) (and_parts (is_tag tag) (fits_tag tag (Control text)) is).1 in
    rw fits.0 (undelimited-is_text text fits.1)
has_shape-spelled_body tag (Data ind1 ind2 []) is =
    let fits = and_parts (not (is_control_tag tag)) _ (and_parts (is_tag tag) (fits_tag tag (Data ind1 ind2 [])) is).1 in
    let rest = and_parts (is_indicator ind1 && is_indicator ind2) false fits.1 in
    cc
has_shape-spelled_body tag (Data ind1 ind2 (s ∷ subfields)) is =
    let fits = and_parts (not (is_control_tag tag)) _ (and_parts (is_tag tag) (fits_tag tag (Data ind1 ind2 (s ∷ subfields))) is).1 in
    let both = and_parts (is_indicator ind1 && is_indicator ind2) _ fits.1 in
    let formed : list_all is_subfield (s ∷ subfields) ≡ true = (and_parts (nat_le 1 (length (s ∷ subfields))) (list_all is_subfield (s ∷ subfields)) both.1).1 in
    let other : is_control_tag tag ≡ false = false_from (is_control_tag tag) fits.0 in
    rw other (and_from _ _ both.0 (are_coded-subfields (s ∷ subfields) formed))
  where
    false_from : (test : Bool) → not test ≡ true → test ≡ false
    false_from true h = sym h
    false_from false h = refl

pub has_shape-spelled : (f : Field) → has_shape f.tag (spelled f.body) ≡ true
has_shape-spelled f = has_shape-spelled_body f.tag f.body f.well_formed

-- an indicator and a code end nothing
indicator_inner : (b : ℕ) → is_indicator b ≡ true → is_inner b ≡ true
indicator_inner b is = grind (arith, nat_tests)

code_inner : (b : ℕ) → is_subfield_code b ≡ true → is_inner b ≡ true
code_inner b is = grind (arith, nat_tests)

inner-subfields : (subfields : List Subfield) → list_all is_subfield subfields ≡ true → are_inner (flat_map spelled_subfield subfields) ≡ true
inner-subfields [] formed = refl
inner-subfields (s ∷ subfields) formed =
    let parts = and_parts (is_subfield s) (list_all is_subfield subfields) formed in
    let one = and_parts (is_subfield_code s.code) (is_text s.text) parts.0 in
    and_from (is_inner s.code) _ (code_inner s.code one.0)
    (list_all-append is_inner s.text (flat_map spelled_subfield subfields) ∙ and_from _ _ (inner-is_text s.text one.1) (inner-subfields subfields parts.1))

-- a field's bytes have no terminator
inner-spelled_body : (tag : List ℕ) (body : Body) → is_field tag body ≡ true → are_inner (spelled body) ≡ true
inner-spelled_body tag (Control text) is =
    inner-is_text text (and_parts (is_control_tag tag) (is_text text) (and_parts (is_tag tag) (fits_tag tag (Control text)) is).1).1
inner-spelled_body tag (Data ind1 ind2 subfields) is =
    let fits = and_parts (not (is_control_tag tag)) _ (and_parts (is_tag tag) (fits_tag tag (Data ind1 ind2 subfields)) is).1 in
    let both = and_parts (is_indicator ind1 && is_indicator ind2) _ fits.1 in
    let two = and_parts (is_indicator ind1) (is_indicator ind2) both.0 in
    let formed = (and_parts (nat_le 1 (length subfields)) (list_all is_subfield subfields) both.1).1 in
    and_from (is_inner ind1) _ (indicator_inner ind1 two.0) (and_from (is_inner ind2) _ (indicator_inner ind2 two.1) (inner-subfields subfields formed))

pub inner-spelled : (f : Field) → are_inner (spelled f.body) ≡ true
inner-spelled f = inner-spelled_body f.tag f.body f.well_formed
