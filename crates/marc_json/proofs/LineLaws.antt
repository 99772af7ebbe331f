-- The line of a record is UTF-8, and is read as the record's value.
use Rattle.std.proofs.Common.{◌≡◌, ℕ, ◌≤◌, Bool, true, false, cond, ◌&&◌, List, [], ◌∷◌, ◌++◌, map, codes, Some, option_and_then, IsUtf8, refl, sym, ap, ap₂, ◌∙◌, subst, arith, append_assoc, append-nil}
use Rattle.std.proofs.lemmas.Str.{IsUtf8-append, IsUtf8-nil, IsUtf8-from_is_utf8, is_utf8-from_IsUtf8}
use Rattle.std.proofs.lemmas.List.Folds.{list_all-append}
use Rattle.std.specs.List.{list_all}
use Rattle.std.specs.Str.{is_utf8}
use Rattle.json.specs.Token.{Token, begin_object, end_object, begin_array, end_array, key, string as text, number, boolean, null, bad}
use Rattle.json.specs.Lex.{token, comma, colon, string_token, lex, between, fresh, punctuate, tokens}
use Rattle.json.specs.Json as tree
use Rattle.json.specs.Print.{escape, quoted, token_text, begins, ends, separator, print_from, print, ArePrintable}
use Rattle.json.specs.Tree.{json_tokens, items_tokens, depth, items_depth}
use Rattle.json.proofs.Printed.Strings.{content-escape, lex-escape}
use Rattle.json.proofs.Printed.Tokens.{tokens-print}
use Rattle.json.proofs.Printed.Trees.{value-json_tokens}
use Rattle.json.proofs.Printed.Utf8.{IsUtf8-are_ascii, IsUtf8-quoted, IsUtf8-key, IsUtf8-separator}
use Rattle.serde_json.specs.Data.{Data as Json, Items}
use Rattle.serde_json.specs.Read.{of_json, of_items, read, max_depth}
use Rattle.serde_json.specs.View.{items_of}
use Rattle.serde_json.specs.Written.{outline, items_outline, compact_text}
use Rattle.serde_json.proofs.Texts.{print-outline}
use Rattle.union_base.specs.Bodies.{Subfield, Body, Control, Data}
use Rattle.union_base.specs.Both.{both_true, true_both}
use Rattle.union_base.specs.Fields.{is_indicator, is_subfield, is_tag, fits_tag}
use Rattle.union_base.specs.declared.field.Field.{Field}
use Rattle.marc_leader.specs.Codes.{are_printable}
use Rattle.marc_parts.specs.declared.marc_record.Record.{Record}
use Rattle.marc_parts.specs.Loads.{is_utf8_subfield, is_utf8_body, is_utf8_field}
use Rattle.marc_json.specs.Values.{line_feed, subfield_value, body_value, field_value, leader_characters, record_value, json_line}
use Rattle.marc_json.specs.Shapes.{value_in}
use Rattle.marc_json.proofs.TextLaws.{ascii_text, indicator_text, code_text, tag_text, leader_text_is_utf8}

-- ---- brackets, keys and texts: what a record's value is written with

-- a bracket, or a key or a text in UTF-8
abbrev is_plain : Token → Bool
is_plain begin_object = true
is_plain end_object = true
is_plain begin_array = true
is_plain end_array = true
is_plain (key s) = is_utf8 s
is_plain (text s) = is_utf8 s
is_plain (number s) = false
is_plain (boolean b) = false
is_plain null = false
is_plain bad = false

abbrev ArePlain : List Token → Type 0
ArePlain ts = list_all is_plain ts ≡ true

plain_append : (ts us : List Token) → ArePlain ts → ArePlain us → ArePlain (ts ++ us)
plain_append ts us p q = list_all-append is_plain ts us ∙ true_both _ _ p q

printable : (ts : List Token) → ArePlain ts → ArePrintable ts
unfolding ArePrintable
printable [] h = tt
printable (begin_object ∷ ts) h = (tt, printable ts h)
printable (end_object ∷ ts) h = (tt, printable ts h)
printable (begin_array ∷ ts) h = (tt, printable ts h)
printable (end_array ∷ ts) h = (tt, printable ts h)
printable (key s ∷ ts) h = (tt, printable ts (both_true _ _ h).1)
printable (text s ∷ ts) h = (tt, printable ts (both_true _ _ h).1)
printable (number s ∷ ts) h = cc
printable (boolean b ∷ ts) h = cc
printable (null ∷ ts) h = cc
printable (bad ∷ ts) h = cc

token_utf8 : (t : Token) → is_plain t ≡ true → IsUtf8 (token_text t)
token_utf8 begin_object h = IsUtf8-are_ascii _ refl
token_utf8 end_object h = IsUtf8-are_ascii _ refl
token_utf8 begin_array h = IsUtf8-are_ascii _ refl
token_utf8 end_array h = IsUtf8-are_ascii _ refl
token_utf8 (key s) h = IsUtf8-key s (IsUtf8-from_is_utf8 s h)
token_utf8 (text s) h = IsUtf8-quoted s (IsUtf8-from_is_utf8 s h)
token_utf8 (number s) h = cc
token_utf8 (boolean b) h = cc
token_utf8 null h = cc
token_utf8 bad h = cc

print_utf8 : (c : Bool) (ts : List Token) → ArePlain ts → IsUtf8 (print_from c ts)
unfolding print_from
print_utf8 c [] h = IsUtf8-nil
print_utf8 c (t ∷ ts) h =
    let p = both_true (is_plain t) (list_all is_plain ts) h in
    IsUtf8-append (separator c t) _ (IsUtf8-separator c t) (IsUtf8-append (token_text t) _ (token_utf8 t p.0) (print_utf8 (ends t) ts p.1))

-- ---- a line feed after them is passed over

lex-quoted : (s r : List ℕ) → lex between (quoted s ++ r) ≡ token (text s) ∷ lex between r
unfolding lex
lex-quoted s r =
    let e = append_assoc (escape s) (34 ∷ []) r in
    ap (λ l. lex between (34 ∷ l)) e ∙ ap₂ (λ o l. token (string_token o) ∷ l) (content-escape s r) (lex-escape s r)

lex-key : (s r : List ℕ) → lex between ((quoted s ++ 58 ∷ []) ++ r) ≡ token (text s) ∷ colon ∷ lex between r
unfolding lex
lex-key s r = ap (lex between) (append_assoc (quoted s) (58 ∷ []) r) ∙ lex-quoted s (58 ∷ r)

-- texts that are lexed alike are lexed alike after a token, too
token_then : (t : Token) (r s : List ℕ) → is_plain t ≡ true → lex between r ≡ lex between s → lex between (token_text t ++ r) ≡ lex between (token_text t ++ s)
unfolding lex
token_then begin_object r s h e = ap (λ l. token begin_object ∷ l) e
token_then end_object r s h e = ap (λ l. token end_object ∷ l) e
token_then begin_array r s h e = ap (λ l. token begin_array ∷ l) e
token_then end_array r s h e = ap (λ l. token end_array ∷ l) e
token_then (key k) r s h e = lex-key k r ∙ ap (λ l. token (text k) ∷ colon ∷ l) e ∙ sym (lex-key k s)
token_then (text k) r s h e = lex-quoted k r ∙ ap (λ l. token (text k) ∷ l) e ∙ sym (lex-quoted k s)
token_then (number k) r s h e = cc
token_then (boolean b) r s h e = cc
token_then null r s h e = cc
token_then bad r s h e = cc

separator_then : (b : Bool) (r s : List ℕ) → lex between r ≡ lex between s → lex between (cond b (44 ∷ []) [] ++ r) ≡ lex between (cond b (44 ∷ []) [] ++ s)
unfolding lex
separator_then true r s e = ap (λ l. comma ∷ l) e
separator_then false r s e = e

regroup : (a b c r : List ℕ) → (a ++ (b ++ c)) ++ r ≡ a ++ (b ++ (c ++ r))
regroup a b c r = append_assoc a (b ++ c) r ∙ ap (λ l. a ++ l) (append_assoc b c r)

print_then : (c : Bool) (ts : List Token) (r s : List ℕ) → ArePlain ts → lex between r ≡ lex between s → lex between (print_from c ts ++ r) ≡ lex between (print_from c ts ++ s)
unfolding print_from
print_then c [] r s h e = e
print_then c (t ∷ ts) r s h e =
    let p = both_true (is_plain t) (list_all is_plain ts) h in
    let more = print_from (ends t) ts in
    ap (lex between) (regroup (separator c t) (token_text t) more r)
    ∙ separator_then (c && begins t) _ _ (token_then t (more ++ r) (more ++ s) p.0 (print_then (ends t) ts r s p.1 e))
    ∙ sym (ap (lex between) (regroup (separator c t) (token_text t) more s))

lex-line_feed : lex between (line_feed ∷ []) ≡ lex between []
unfolding lex
lex-line_feed = refl

tokens-line : (ts : List Token) → ArePlain ts → tokens (print ts ++ line_feed ∷ []) ≡ ts
tokens-line ts h =
    ap (punctuate fresh) (print_then false ts (line_feed ∷ []) [] h lex-line_feed) ∙ ap tokens (append-nil (print ts)) ∙ tokens-print ts (printable ts h)

-- ---- a record's value: its tokens are such, it nests six deep, and it is read from its outline

-- what the text of a value asks for
record IsWritable (value : Json) (deep : ℕ) : Type 0 where
  plain : ArePlain (json_tokens (outline value))
  nests : depth (outline value) ≤ deep
  reads : of_json (outline value) ≡ Some value

-- the same of the values of a list
record AreWritable (values : Items) (deep : ℕ) : Type 0 where
  plain : ArePlain (items_tokens (items_outline values))
  nests : items_depth (items_outline values) ≤ deep
  reads : of_items (items_outline values) ≡ Some values

list_writable : {A : Type 0} (p : A → Bool) (value_of : A → Json) (deep : ℕ) → ((x : A) → p x ≡ true → IsWritable (value_of x) deep)
    → (xs : List A) → list_all p xs ≡ true → AreWritable (items_of (map value_of xs)) deep
list_writable p value_of deep each [] h = record { plain = refl; nests = omega arith; reads = refl }
list_writable p value_of deep each (x ∷ xs) h =
    let parts = both_true (p x) (list_all p xs) h in
    let one = each x parts.0 in
    let rest = list_writable p value_of deep each xs parts.1 in
    record {
      plain = plain_append (json_tokens (outline (value_of x))) (items_tokens (items_outline (items_of (map value_of xs)))) one.plain rest.plain;
      nests = omega (arith, one.nests, rest.nests);
      reads = rw (one.reads, rest.reads);
    }

abbrev is_good : Subfield → Bool
is_good s = is_subfield s && is_utf8_subfield s

all_good : (xs : List Subfield) → list_all is_subfield xs ≡ true → list_all is_utf8_subfield xs ≡ true → list_all is_good xs ≡ true
all_good [] p q = refl
all_good (x ∷ xs) p q =
    let one = both_true (is_subfield x) (list_all is_subfield xs) p in
    let other = both_true (is_utf8_subfield x) (list_all is_utf8_subfield xs) q in
    true_both _ _ (true_both _ _ one.0 other.0) (all_good xs one.1 other.1)

subfield_writable : (s : Subfield) → is_good s ≡ true → IsWritable (subfield_value s) 1
subfield_writable s h =
    let p = both_true (is_subfield s) (is_utf8_subfield s) h in
    record {
      plain = true_both _ _ (code_text s p.0) (true_both _ _ p.1 refl);
      nests = omega arith;
      reads = refl;
    }

body_writable : (tag : List ℕ) (b : Body) → fits_tag tag b ≡ true → is_utf8_body b ≡ true → IsWritable (body_value b) 3
body_writable tag (Control s) p q = record { plain = true_both _ _ q refl; nests = omega arith; reads = refl }
body_writable tag (Data i j ss) p q =
    let parts = (both_true _ _ p).1 in
    let indicators = both_true (is_indicator i) (is_indicator j) (both_true _ _ parts).0 in
    let formed = (both_true _ (list_all is_subfield ss) (both_true _ _ parts).1).1 in
    let rest = list_writable is_good subfield_value 1 subfield_writable ss (all_good ss formed q) in
    record {
      plain =
          true_both _ _ (ascii_text (codes "ind1") refl) (true_both _ _ (indicator_text i indicators.0)
          (true_both _ _ (ascii_text (codes "ind2") refl) (true_both _ _ (indicator_text j indicators.1)
          (true_both _ _ (ascii_text (codes "subfields") refl)
          (plain_append (items_tokens (items_outline (items_of (map subfield_value ss)))) (end_object ∷ []) rest.plain refl)))));
      nests = omega (arith, rest.nests);
      reads = rw rest.reads;
    }

field_writable : (f : Field) → is_utf8_field f ≡ true → IsWritable (field_value f) 4
field_writable f h =
    let parts = both_true (is_tag f.tag) (fits_tag f.tag f.body) f.well_formed in
    let body = body_writable f.tag f.body parts.1 h in
    record {
      plain = true_both _ _ (tag_text f.tag parts.0) (plain_append (json_tokens (outline (body_value f.body))) (end_object ∷ []) body.plain refl);
      nests = omega (arith, body.nests);
      reads = rw body.reads;
    }

record_writable : (r : Record) → are_printable r.leader ≡ true → list_all is_utf8_field r.fields ≡ true → IsWritable (record_value r) 6
record_writable r prints utf8 =
    let rest = list_writable is_utf8_field field_value 4 field_writable r.fields utf8 in
    record {
      plain =
          true_both _ _ (ascii_text (codes "fields") refl)
          (plain_append (items_tokens (items_outline (items_of (map field_value r.fields)))) (key (codes "leader") ∷ text (leader_characters r.leader) ∷ end_object ∷ []) rest.plain
          (true_both _ _ (ascii_text (codes "leader") refl) (true_both _ _ (leader_text_is_utf8 r.leader prints) refl)));
      nests = omega (arith, rest.nests);
      reads = rw rest.reads;
    }

-- ---- the line

read_line : (value : Json) → IsWritable value 6 → read (compact_text value ++ line_feed ∷ []) ≡ Some value
read_line value w =
    let j = outline value in
    let found : tokens (compact_text value ++ line_feed ∷ []) ≡ json_tokens j ++ [] =
    ap (λ l. tokens (l ++ line_feed ∷ [])) (sym (print-outline value)) ∙ tokens-line (json_tokens j) w.plain ∙ sym (append-nil (json_tokens j)) in
    let whole : tree.value max_depth (tokens (compact_text value ++ line_feed ∷ [])) ≡ Some (j, []) =
    ap (tree.value max_depth) found ∙ value-json_tokens j max_depth [] (omega (arith, w.nests)) in
    ap (λ o. option_and_then of_json (option_and_then (λ p. tree.if_last p.0 p.1) o)) whole ∙ w.reads

line_utf8 : (value : Json) → IsWritable value 6 → is_utf8 (compact_text value ++ line_feed ∷ []) ≡ true
line_utf8 value w =
    let printed = subst IsUtf8 (print-outline value) (print_utf8 false (json_tokens (outline value)) w.plain) in
    is_utf8-from_IsUtf8 _ (IsUtf8-append (compact_text value) (line_feed ∷ []) printed (IsUtf8-are_ascii (line_feed ∷ []) refl))

-- the line of a record is its value
pub value_in-json_line : (r : Record) → are_printable r.leader ≡ true → list_all is_utf8_field r.fields ≡ true → value_in (json_line r) ≡ Some (record_value r)
unfolding value_in json_line
value_in-json_line r prints utf8 =
    let w = record_writable r prints utf8 in
    rw (line_utf8 (record_value r) w) (read_line (record_value r) w)
