-- UTF-8 of a field's bytes and of its texts.
use Rattle.std.proofs.Common.{◌≡◌, ℕ, zero, suc, ◌+◌, ◌<◌, true, not, ◌&&◌, List, [], ◌∷◌, ◌++◌, length, get_or, drop, refl, sym, ◌∙◌, ap, subst, arith, length-append, drop-drop, ◌-◌, ◌≤◌, length-drop, take}
use Rattle.std.proofs.Math.Seq.{take-append_seam, drop-append_seam, get_or-append_seam}
use Rattle.std.proofs.lemmas.Bool.{and_parts, and_from}
use Rattle.std.proofs.lemmas.Bool.Decides.{nat_tests}
use Rattle.std.proofs.lemmas.List.{append-nil, get_or-take, get_or-drop, length-take}
use Rattle.std.proofs.lemmas.Str.{IsUtf8-from_is_utf8, is_utf8-from_IsUtf8, IsUtf8-take, IsUtf8-drop, IsUtf8-nil, IsUtf8-append, IsUtf8-from_ascii, IsCharBoundary-before_ascii, IsCharBoundary-after_ascii, IsUtf8-between}
use Rattle.std.specs.List.{flat_map, list_all}
use Rattle.std.specs.Prelude.{◌==◌, nat_le}
use Rattle.std.specs.Str.{IsUtf8, IsAscii, is_utf8, IsCharBoundary}
use Rattle.marc_leader.specs.declared.entry.Entry.{Entry}
use Rattle.union_base.specs.Fields.{is_subfield, is_subfield_code, is_indicator, is_text, spelled_subfield, spelled as body_bytes, fits_tag, is_field, is_tag, is_control_tag}
use Rattle.union_base.specs.Bodies.{Subfield, Body, Control, Data}
use Rattle.union_base.specs.declared.field.Field.{Field}
use Rattle.marc_fields.specs.Spelling.{AreEntriesOf}
use Rattle.marc_fields.specs.Rules.{is_tile, range_of, text_of}
use Rattle.marc_fields.proofs.FieldReading.{tile-parts}
use Rattle.marc_fields.proofs.NoFailure.{text-spelled}
use Rattle.marc_parts.specs.Loads.{is_utf8_subfield, is_utf8_body, is_utf8_field}
use Rattle.marc_rules.specs.Contents.{is_plain_at, is_utf8_at}
use Rattle.marc_parts.specs.Loads.{is_plain}

-- a text may be parted at an ASCII byte
pub utf8-split : (front rest : List ℕ) (b : ℕ) → b < 128 → IsUtf8 (front ++ b ∷ rest) → IsUtf8 front × IsUtf8 rest
utf8-split front rest b ascii u =
    let whole = front ++ b ∷ rest in
    let below : length front < length whole = omega (arith, length-append front (b ∷ rest)) in
    let here : get_or whole (length front) 0 ≡ b = get_or-append_seam front b rest 0 in
    let low : get_or whole (length front) 0 < 128 = omega (arith, here, ascii) in
    let behind : drop (length front + 1) whole ≡ rest
    = sym (drop-drop 1 (length front) whole ∙ ap (λ n. drop n whole) (omega arith)) ∙ ap (drop 1) (drop-append_seam front (b ∷ rest)) in
    let Is : List ℕ → Type 0 = λ t. IsUtf8 t in (
      subst Is (take-append_seam front (b ∷ rest)) (IsUtf8-take whole (length front) u (IsCharBoundary-before_ascii whole (length front) below low)),
      subst Is behind (IsUtf8-drop whole (length front + 1) u (IsCharBoundary-after_ascii whole (length front) u below low)),
    )

-- ASCII is UTF-8
all_ascii : (t : List ℕ) → is_plain t ≡ true → IsAscii t
all_ascii [] plain i = lit_low
  where
    lit_low : 0 < 128
    lit_low = omega arith
all_ascii (b ∷ t) plain zero =
    let both = and_parts (nat_le b 0x7F && not (b == 0x1B)) (is_plain t) plain in
    ascii b (and_parts (nat_le b 0x7F) (not (b == 0x1B)) both.0).0
  where
    ascii : (n : ℕ) → nat_le n 0x7F ≡ true → n < 128
    ascii n h = grind (arith, nat_tests)
all_ascii (b ∷ t) plain (suc i) = all_ascii t (and_parts (nat_le b 0x7F && not (b == 0x1B)) (is_plain t) plain).1 i

plain-is_utf8 : (t : List ℕ) → is_plain t ≡ true → is_utf8 t ≡ true
plain-is_utf8 t plain = is_utf8-from_IsUtf8 t (IsUtf8-from_ascii t (all_ascii t plain))

pub plain-all : (bytes : List ℕ) (entries : List Entry) → list_all (is_plain_at bytes) entries ≡ true → list_all (is_utf8_at bytes) entries ≡ true
plain-all bytes [] all = refl
plain-all bytes (e ∷ entries) all =
    let both = and_parts (is_plain_at bytes e) (list_all (is_plain_at bytes) entries) all in
    and_from _ _ (plain-is_utf8 _ both.0) (plain-all bytes entries both.1)

-- a delimiter before a text
delimited : (t : List ℕ) → IsUtf8 t → IsUtf8 (0x1F ∷ t)
delimited t u = IsUtf8-append (0x1F ∷ []) t (IsUtf8-from_ascii (0x1F ∷ []) (all_ascii (0x1F ∷ []) refl)) u

code_low : (b : ℕ) → is_subfield_code b ≡ true → b < 128
code_low b is = grind (arith, nat_tests)

indicator_low : (b : ℕ) → is_indicator b ≡ true → b < 128
indicator_low b is = grind (arith, nat_tests)

-- the text of a subfield, and the subfields after it
text_of_first : (text : List ℕ) (subfields : List Subfield) → IsUtf8 (text ++ flat_map spelled_subfield subfields)
    → IsUtf8 text × IsUtf8 (flat_map spelled_subfield subfields)
text_of_first text [] u = let Is : List ℕ → Type 0 = λ t. IsUtf8 t in (subst Is (append-nil text) u, IsUtf8-nil)
text_of_first text (s ∷ subfields) u =
    let parts = utf8-split text (s.code ∷ (s.text ++ flat_map spelled_subfield subfields)) 0x1F (omega arith) u in
    (parts.0, delimited _ parts.1)

-- the texts of subfields whose bytes are UTF-8
utf8_subfields : (subfields : List Subfield) → list_all is_subfield subfields ≡ true → IsUtf8 (flat_map spelled_subfield subfields)
    → list_all is_utf8_subfield subfields ≡ true
utf8_subfields [] formed u = refl
utf8_subfields (s ∷ subfields) formed u =
    let both = and_parts (is_subfield s) (list_all is_subfield subfields) formed in
    let code = (and_parts (is_subfield_code s.code) (is_text s.text) both.0).0 in
    let rest = flat_map spelled_subfield subfields in
    let coded = utf8-split [] (s.code ∷ (s.text ++ rest)) 0x1F (omega arith) u in
    let behind = utf8-split [] (s.text ++ rest) s.code (code_low s.code code) coded.1 in
    let parts = text_of_first s.text subfields behind.1 in
    and_from _ _ (is_utf8-from_IsUtf8 s.text parts.0) (utf8_subfields subfields both.1 parts.1)

utf8_body : (tag : List ℕ) (body : Body) → is_field tag body ≡ true → is_utf8 (body_bytes body) ≡ true → is_utf8_body body ≡ true
utf8_body tag (Control text) is u = u
utf8_body tag (Data ind1 ind2 subfields) is u =
    let fits = and_parts (not (is_control_tag tag)) _ (and_parts (is_tag tag) (fits_tag tag (Data ind1 ind2 subfields)) is).1 in
    let both = and_parts (is_indicator ind1 && is_indicator ind2) _ fits.1 in
    let two = and_parts (is_indicator ind1) (is_indicator ind2) both.0 in
    let formed = (and_parts (nat_le 1 (length subfields)) (list_all is_subfield subfields) both.1).1 in
    let bytes = flat_map spelled_subfield subfields in
    let first = utf8-split [] (ind2 ∷ bytes) ind1 (indicator_low ind1 two.0) (IsUtf8-from_is_utf8 (ind1 ∷ ind2 ∷ bytes) u) in
    let second = utf8-split [] bytes ind2 (indicator_low ind2 two.1) first.1 in
    utf8_subfields subfields formed second.1

-- fields that lie at their entries
pub utf8-fields : (bytes : List ℕ) (entries : List Entry) (fields : List Field) → AreEntriesOf bytes entries fields
    → list_all (is_utf8_at bytes) entries ≡ true → list_all is_utf8_field fields ≡ true
utf8-fields bytes [] [] are all = refl
utf8-fields bytes [] (f ∷ fields) are all = absurd are
utf8-fields bytes (e ∷ entries) [] are all = absurd are
utf8-fields bytes (e ∷ entries) (f ∷ fields) are all =
    let both = and_parts (is_utf8_at bytes e) (list_all (is_utf8_at bytes) entries) all in
    let here : is_utf8 (body_bytes f.body) ≡ true = sym (ap is_utf8 (text-spelled bytes e f are.0)) ∙ both.0 in
    and_from _ _ (utf8_body f.tag f.body f.well_formed here) (utf8-fields bytes entries fields are.1 both.1)

-- a field of UTF-8 data that begins with a character is UTF-8
pub utf8-tile : (bytes : List ℕ) (e : Entry) → IsUtf8 bytes → is_tile bytes e ≡ true → IsCharBoundary bytes e.start → is_utf8_at bytes e ≡ true
utf8-tile bytes e u is begins =
    let tile = tile-parts bytes e is in
    let text = text_of bytes e in
    let last = e.start + (e.length - 1) in
    let room : e.length - 1 ≤ length (drop e.start bytes) = omega (arith, length-drop e.start bytes, tile.inside) in
    let size : length text ≡ e.length - 1 = omega (arith, length-take (e.length - 1) (drop e.start bytes), room) in
    let in_range : get_or (range_of bytes e) (e.length - 1) 0 ≡ 0x1E
    = ap (λ t. get_or t (e.length - 1) 0) tile.parts
    ∙ (ap (λ n. get_or (text ++ 0x1E ∷ []) n 0) (sym size) ∙ get_or-append_seam text 0x1E [] 0) in
    let there : get_or bytes last 0 ≡ 0x1E
    = sym (get_or-take e.length (drop e.start bytes) (e.length - 1) 0 (omega (arith, tile.some)) ∙ get_or-drop e.start bytes (e.length - 1) 0) ∙ in_range in
    let below : last < length bytes = omega (arith, tile.inside, tile.some) in
    let ends = IsCharBoundary-before_ascii bytes last below (omega (arith, there)) in
    let Is : ℕ → Type 0 = λ n. IsUtf8 (take n (drop e.start bytes)) in
    is_utf8-from_IsUtf8 text (subst Is (omega arith) (IsUtf8-between bytes e.start last u (omega arith) begins ends))
