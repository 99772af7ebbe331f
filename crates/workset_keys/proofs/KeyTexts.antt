-- The names, titles and keys that fields make are UTF-8, with none of the bytes that part records, fields and subfields.
use Rattle.std.proofs.Common.{◌≡◌, ℕ, Bool, true, false, cond, List, [], ◌∷◌, ◌++◌, refl}
use Rattle.std.specs.Prelude.{fold, codes, Option, Some, None}
use Rattle.std.specs.List.{list_all}
use Rattle.std.specs.Str.{is_utf8}
use Rattle.std.specs.Ordering.{nat_cmp, is_lt}
use Rattle.std.specs.Cmp.Lexicographic.{slice_cmp}
use Rattle.union_base.specs.Both.{both_true, true_both}
use Rattle.union_base.specs.Fields.{is_text}
use Rattle.union_base.specs.Bodies.{Subfield, subfields_of}
use Rattle.union_base.specs.declared.field.Field.{Field}
use Rattle.union_base.specs.declared.record_id.RecordId.{RecordId}
use Rattle.naco_normal.specs.Words.{is_empty}
use Rattle.naco_normal.specs.Heading.{heading_of, title_of}
use Rattle.workset_keys.specs.Names.{first_indicator, second_indicator, skip_of, name_of, name_codes, title130_of, title245_of}
use Rattle.workset_keys.specs.Texts.{is_key_text}
use Rattle.workset_keys.specs.WorkKeys.{is_uniform_title, main_name, main_title, uniform_title, lesser, least_of, or_else, key_by_title, key_without_name, own_name, key_of_names}
use Rattle.workset_keys.proofs.FormTexts.{text-append, text-heading, text-title}
use Rattle.workset_keys.proofs.FormUtf8.{utf8-append, utf8-nil, utf8-low, utf8-heading, utf8-title}

pub key-both : (text : List ℕ) → is_text text ≡ true → is_utf8 text ≡ true → is_key_text text ≡ true
key-both text p q = true_both (is_text text) (is_utf8 text) p q

pub key-nil : is_key_text [] ≡ true
key-nil = key-both [] refl utf8-nil

pub key-either : (b : Bool) (x y : List ℕ) → is_key_text x ≡ true → is_key_text y ≡ true → is_key_text (cond b x y) ≡ true
key-either true x y p q = p
key-either false x y p q = q

pub key-append : (a b : List ℕ) → is_key_text a ≡ true → is_key_text b ≡ true → is_key_text (a ++ b) ≡ true
key-append a b p q =
    let one = both_true (is_text a) (is_utf8 a) p in
    let two = both_true (is_text b) (is_utf8 b) q in
    key-both (a ++ b) (text-append a b one.0 two.0) (utf8-append a b one.1 two.1)

key-three : (a b d : List ℕ) → is_key_text a ≡ true → is_key_text b ≡ true → is_key_text d ≡ true → is_key_text (a ++ b ++ d) ≡ true
key-three a b d p q r = key-append (a ++ b) d (key-append a b p q) r

-- ---- names and titles

key-heading : (subfields : List Subfield) (wanted : List ℕ) → is_key_text (heading_of subfields wanted) ≡ true
key-heading subfields wanted = key-both (heading_of subfields wanted) (text-heading subfields wanted) (utf8-heading subfields wanted)

key-title : (subfields : List Subfield) (wanted : List ℕ) (skip : ℕ) → is_key_text (title_of subfields wanted skip) ≡ true
key-title subfields wanted skip =
    key-both (title_of subfields wanted skip) (text-title subfields wanted skip) (utf8-title subfields wanted skip)

pub key-name : (f : Field) → is_key_text (name_of f) ≡ true
key-name f = key-heading (subfields_of f.body) (name_codes f.tag)

pub key-main_name : (main : Option Field) → is_key_text (main_name main) ≡ true
key-main_name None = key-nil
key-main_name (Some f) = key-either (is_uniform_title f.tag) [] (name_of f) key-nil (key-name f)

key-main_title : (main : Option Field) → is_key_text (main_title main) ≡ true
key-main_title None = key-nil
key-main_title (Some f) =
    key-either (is_uniform_title f.tag) (title130_of f) []
    (key-title (subfields_of f.body) (codes "anp") (skip_of (first_indicator f.body))) key-nil

key-uniform_title : (uniform : Option Field) → is_key_text (uniform_title uniform) ≡ true
key-uniform_title None = key-nil
key-uniform_title (Some f) = key-title (subfields_of f.body) (codes "anp") (skip_of (second_indicator f.body))

-- ---- keys

key-lesser : (least text : List ℕ) → is_key_text least ≡ true → is_key_text text ≡ true → is_key_text (lesser least text) ≡ true
key-lesser least text p q =
    key-either (is_empty least) text _ q
    (key-either (is_empty text) least _ p (key-either (is_lt (slice_cmp nat_cmp text least)) text least q p))

key-fold : (names : List (List ℕ)) (least : List ℕ) → list_all is_key_text names ≡ true → is_key_text least ≡ true
    → is_key_text (fold lesser least names) ≡ true
key-fold [] least h p = p
key-fold (name ∷ names) least h p =
    let parts = both_true (is_key_text name) (list_all is_key_text names) h in
    key-fold names (lesser least name) parts.1 (key-lesser least name p parts.0)

pub key-least_of : (names : List (List ℕ)) → list_all is_key_text names ≡ true → is_key_text (least_of names) ≡ true
key-least_of names h = key-fold names [] h key-nil

-- so is a key, if the names that it is made of are
pub key-of_names : (name least : List ℕ) (main uniform : Option Field) (title : Field) (id : RecordId)
    → is_key_text name ≡ true → is_key_text least ≡ true → is_key_text (own_name id) ≡ true
    → is_key_text (key_of_names name least main uniform title id) ≡ true
key-of_names name least main uniform title id named chosen own =
    let whole = main_title main in
    let own_title : is_key_text (title245_of title) ≡ true =
    key-title (subfields_of title.body) (codes "abnp") (skip_of (second_indicator title.body)) in
    let mark : (text : List ℕ) → is_text text ≡ true → is_utf8 text ≡ true → is_key_text text ≡ true = key-both in
    key-either (is_empty name) (key_without_name whole (title245_of title) least (own_name id))
    (name ++ codes "/" ++ or_else (uniform_title uniform) (title245_of title))
    (key-either (is_empty whole) (key_by_title (title245_of title) least (own_name id)) (codes "/" ++ whole)
    (key-either (is_empty least) (title245_of title ++ codes "///" ++ own_name id) (title245_of title ++ codes "//" ++ least)
    (key-three (title245_of title) (codes "///") (own_name id) own_title (mark (codes "///") refl (utf8-low (codes "///") refl)) own)
    (key-three (title245_of title) (codes "//") least own_title (mark (codes "//") refl (utf8-low (codes "//") refl)) chosen))
    (key-append (codes "/") whole (mark (codes "/") refl (utf8-low (codes "/") refl)) (key-main_title main)))
    (key-three name (codes "/") (or_else (uniform_title uniform) (title245_of title)) named (mark (codes "/") refl (utf8-low (codes "/") refl))
    (key-either (is_empty (uniform_title uniform)) (title245_of title) (uniform_title uniform) own_title (key-uniform_title uniform)))
