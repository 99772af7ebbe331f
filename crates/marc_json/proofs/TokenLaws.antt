-- The tokens that are written for a record, and the text that they are.
use Rattle.std.proofs.Common.{◌≡◌, ℕ, List, [], ◌∷◌, ◌++◌, map, codes, refl, sym, ap, ap₂, ◌∙◌, append_assoc}
use Rattle.std.specs.List.{flat_map}
use Rattle.json.specs.Token.{Token, begin_object, end_object, begin_array, end_array, key, string as text}
use Rattle.json.specs.Print.{print}
use Rattle.json.specs.Tree.{items_tokens}
use Rattle.serde_json.specs.Data.{Data as Json}
use Rattle.serde_json.specs.View.{items_of}
use Rattle.serde_json.specs.Written.{items_outline, compact_text}
use Rattle.serde_json.proofs.Texts.{print-outline}
use Rattle.union_base.specs.Bodies.{Subfield, Data}
use Rattle.union_base.specs.declared.field.Field.{Field}
use Rattle.marc_parts.specs.declared.marc_record.Record.{Record}
use Rattle.marc_json.specs.Values.{line_feed, subfield_value, body_value, field_value, leader_characters, record_value, json_line}
use Rattle.marc_json.specs.Tokens.{value_tokens}

-- two appends are one
pub joined : (old mid new xs ys : List Token) → mid ≡ old ++ xs → new ≡ mid ++ ys → new ≡ old ++ (xs ++ ys)
joined old mid new xs ys e f = f ∙ ap (λ l. l ++ ys) e ∙ append_assoc old xs ys

-- the tokens of a list are those of its values, and the bracket that closes it
pub list_tokens : {A : Type 0} (value_of : A → Json) (xs : List A)
    → items_tokens (items_outline (items_of (map value_of xs))) ≡ flat_map (λ x. value_tokens (value_of x)) xs ++ end_array ∷ []
unfolding value_tokens
list_tokens value_of [] = refl
list_tokens value_of (x ∷ xs) =
    ap (λ l. value_tokens (value_of x) ++ l) (list_tokens value_of xs)
    ∙ sym (append_assoc (value_tokens (value_of x)) (flat_map (λ y. value_tokens (value_of y)) xs) (end_array ∷ []))

abbrev pub subfields_tokens : List Subfield → List Token
subfields_tokens subfields = flat_map (λ s. value_tokens (subfield_value s)) subfields

abbrev pub fields_tokens : List Field → List Token
fields_tokens fields = flat_map (λ f. value_tokens (field_value f)) fields

-- what stands before a data field's subfields
abbrev pub data_front : ℕ → ℕ → List Token
data_front ind1 ind2 =
    begin_object ∷ key (codes "ind1") ∷ text (ind1 ∷ []) ∷ key (codes "ind2") ∷ text (ind2 ∷ []) ∷ key (codes "subfields") ∷ begin_array ∷ []

pub data_tokens : (ind1 ind2 : ℕ) (subfields : List Subfield)
    → value_tokens (body_value (Data ind1 ind2 subfields)) ≡ data_front ind1 ind2 ++ ((subfields_tokens subfields ++ end_array ∷ []) ++ end_object ∷ [])
unfolding value_tokens
data_tokens ind1 ind2 subfields = ap (λ l. data_front ind1 ind2 ++ (l ++ end_object ∷ [])) (list_tokens subfield_value subfields)

-- what stands before a record's fields
abbrev pub record_front : List Token
record_front = begin_object ∷ key (codes "fields") ∷ begin_array ∷ []

-- what stands after them
abbrev pub record_end : List ℕ → List Token
record_end leader = key (codes "leader") ∷ text leader ∷ end_object ∷ []

pub record_tokens : (r : Record)
    → value_tokens (record_value r) ≡ record_front ++ ((fields_tokens r.fields ++ end_array ∷ []) ++ record_end (leader_characters r.leader))
unfolding value_tokens
record_tokens r = ap (λ l. record_front ++ (l ++ record_end (leader_characters r.leader))) (list_tokens field_value r.fields)

-- what was written for a record, and a line feed after it, is its line
pub line_appended : (old before mid new : List ℕ) (ts : List Token) (r : Record) → before ≡ old → ts ≡ [] ++ value_tokens (record_value r)
    → mid ≡ before ++ print ts → new ≡ mid ++ line_feed ∷ [] → new ≡ old ++ json_line r
unfolding value_tokens json_line
line_appended old before mid new ts r same written middle end =
    let line = print-outline (record_value r) in
    end ∙ ap (λ l. l ++ line_feed ∷ []) (middle ∙ ap₂ (λ a b. a ++ print b) same written ∙ ap (λ l. old ++ l) line)
    ∙ append_assoc old (compact_text (record_value r)) (line_feed ∷ [])
