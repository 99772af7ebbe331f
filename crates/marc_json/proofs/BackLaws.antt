-- A record that was written is read again.
use Rattle.std.proofs.Common.{◌≡◌, ℕ, Bool, true, List, [], ◌∷◌, ◌++◌, map, if◌then◌else◌, Option, Some, None, option_map, Result, Ok, Err, IfOk, IfErr, IsSomeAnd, refl, sym, ap, ◌∙◌, subst, inl, inr}
use Rattle.std.specs.List.{list_all}
use Rattle.serde_json.specs.Data.{Data as Json, Items}
use Rattle.serde_json.specs.View.{items_of}
use Rattle.union_base.specs.Bodies.{Subfield, Body, Control, Data}
use Rattle.union_base.specs.FieldLaws.{same_fields}
use Rattle.union_base.specs.Fields.{spelled}
use Rattle.union_base.specs.declared.field.Field.{Field}
use Rattle.marc_leader.specs.Codes.{are_printable}
use Rattle.marc_leader.specs.Leader.{codes_of}
use Rattle.marc_parts.specs.declared.marc_record.Record.{Record}
use Rattle.marc_parts.specs.Loads.{is_utf8_field}
use Rattle.marc_json.specs.Values.{subfield_value, body_value, field_value, leader_characters, record_value, json_line}
use Rattle.marc_json.specs.Shapes.{value_in, is_leader, leader_in, list_in, in_unicode, unicode_record, StandsFor, IsMisfit, IsCause, IsReadAs}
use Rattle.marc_json.specs.declared.reading.JsonRefusal.{JsonRefusal}
use Rattle.marc_json.specs.declared.reading.JsonRefusal.TheVariants.{Json as NoJson, Shape, Memory}
use Rattle.marc_json.proofs.TextLaws.{leader_prints}
use Rattle.marc_json.proofs.LineLaws.{value_in-json_line}

-- ---- a value is the value of one thing at most

pub items_of-same : (xs ys : List Json) → items_of xs ≡ items_of ys → xs ≡ ys
items_of-same [] [] e = refl
items_of-same [] (y ∷ ys) e = cc
items_of-same (x ∷ xs) [] e = cc
items_of-same (x ∷ xs) (y ∷ ys) e =
    let first : x ≡ y = cc in
    let rest : items_of xs ≡ items_of ys = cc in
    let more = items_of-same xs ys rest in
    λ i. first i ∷ more i

same_subfields : (xs ys : List Subfield) → map subfield_value xs ≡ map subfield_value ys → xs ≡ ys
same_subfields [] [] e = refl
same_subfields [] (y ∷ ys) e = cc
same_subfields (x ∷ xs) [] e = cc
same_subfields (x ∷ xs) (y ∷ ys) e =
    let codes : x.code ≡ y.code = cc in
    let texts : x.text ≡ y.text = cc in
    let rest : map subfield_value xs ≡ map subfield_value ys = cc in
    let more = same_subfields xs ys rest in
    λ i. record { code = codes i; text = texts i } ∷ more i

same_bodies : (a b : Body) → body_value a ≡ body_value b → a ≡ b
same_bodies (Control s) (Control t) e = let texts : s ≡ t = cc in λ i. Control (texts i)
same_bodies (Control s) (Data k l ys) e = cc
same_bodies (Data i j xs) (Control t) e = cc
same_bodies (Data i j xs) (Data k l ys) e =
    let first : i ≡ k = cc in
    let second : j ≡ l = cc in
    let lists : items_of (map subfield_value xs) ≡ items_of (map subfield_value ys) = cc in
    let rest = same_subfields xs ys (items_of-same (map subfield_value xs) (map subfield_value ys) lists) in
    λ n. Data (first n) (second n) (rest n)

same_field : (f g : Field) → field_value f ≡ field_value g → f ≡ g
same_field f g e =
    let tags : f.tag ≡ g.tag = cc in
    let bodies : body_value f.body ≡ body_value g.body = cc in
    same_fields f g tags (ap spelled (same_bodies f.body g.body bodies))

same_field_lists : (xs ys : List Field) → map field_value xs ≡ map field_value ys → xs ≡ ys
same_field_lists [] [] e = refl
same_field_lists [] (y ∷ ys) e = cc
same_field_lists (x ∷ xs) [] e = cc
same_field_lists (x ∷ xs) (y ∷ ys) e =
    let first : field_value x ≡ field_value y = cc in
    let rest : map field_value xs ≡ map field_value ys = cc in
    let one = same_field x y first in
    let more = same_field_lists xs ys rest in
    λ i. one i ∷ more i

-- ---- what a record's value stands for

chosen : (b : Bool) (text : List ℕ) → b ≡ true → (if b then Some text else None) ≡ Some text
chosen b text e = rw e

leader_in-record_value : (r : Record) → are_printable r.leader ≡ true → leader_in (record_value r) ≡ Some (leader_characters r.leader)
unfolding leader_in
leader_in-record_value r h = chosen (is_leader (leader_characters r.leader)) (leader_characters r.leader) (leader_prints r.leader h)

list_in-record_value : (r : Record) → list_in (record_value r) ≡ Some (items_of (map field_value r.fields))
unfolding list_in
list_in-record_value r = refl

same_record : (r s : Record) → are_printable r.leader ≡ true → StandsFor (record_value r) s → s ≡ unicode_record r
same_record r s h stands =
    let leaders : Some (in_unicode r.leader) ≡ Some s.leader = ap (option_map (λ text. in_unicode (codes_of text))) (sym (leader_in-record_value r h)) ∙ stands.leader in
    let lists : Some (items_of (map field_value r.fields)) ≡ Some (items_of (map field_value s.fields)) = sym (list_in-record_value r) ∙ stands.fields in
    let leader : s.leader ≡ in_unicode r.leader = cc in
    let items : items_of (map field_value s.fields) ≡ items_of (map field_value r.fields) = cc in
    let fields = same_field_lists s.fields r.fields (items_of-same (map field_value s.fields) (map field_value r.fields) items) in
    λ i. record { leader = leader i; fields = fields i }

no_wrong : (fields before : List Field) (wrong : Json) (behind : List Json) → map field_value fields ≡ map field_value before ++ wrong ∷ behind
    → ((f : Field) → field_value f ≡ wrong → ⊥) → ⊥
no_wrong [] [] wrong behind e none = cc
no_wrong [] (b ∷ before) wrong behind e none = cc
no_wrong (f ∷ fields) [] wrong behind e none = let here : field_value f ≡ wrong = cc in none f here
no_wrong (f ∷ fields) (b ∷ before) wrong behind e none =
    let rest : map field_value fields ≡ map field_value before ++ wrong ∷ behind = cc in
    no_wrong fields before wrong behind rest none

no_misfit : (r : Record) (at : ℕ) → are_printable r.leader ≡ true → IsMisfit (leader_in (record_value r)) (list_in (record_value r)) at → ⊥
no_misfit r at h misfit =
    let P : Option (List ℕ) → Type 0 = λ leader. IsMisfit leader (list_in (record_value r)) at in
    let Q : Option Items → Type 0 = λ list. IsMisfit (Some (leader_characters r.leader)) list at in
    let first = subst Q (list_in-record_value r) (subst P (leader_in-record_value r h) misfit) in
    no_wrong r.fields first.before first.wrong first.behind
    (items_of-same (map field_value r.fields) (map field_value first.before ++ first.wrong ∷ first.behind) first.parts) first.no_field

-- a line that was written is read as its record, or not at all for lack of memory
pub read_back : (line : List ℕ) (answer : Result Record JsonRefusal) → IfOk answer (λ s. IsSomeAnd (value_in line) (λ value. StandsFor value s))
    → IfErr answer (λ refusal. IsCause refusal (value_in line))
    → (r : Record) → are_printable r.leader ≡ true → list_all is_utf8_field r.fields ≡ true → line ≡ json_line r → IsReadAs (unicode_record r) answer
read_back line (Ok s) found refused r prints utf8 e =
    let is : value_in line ≡ Some (record_value r) = ap value_in e ∙ value_in-json_line r prints utf8 in
    let P : Option Json → Type 0 = λ value. IsSomeAnd value (λ value. StandsFor value s) in
    inl (ap Ok (same_record r s prints (subst P is found)))
read_back line (Err NoJson) found refused r prints utf8 e =
    let is : value_in line ≡ Some (record_value r) = ap value_in e ∙ value_in-json_line r prints utf8 in
    let none : value_in line ≡ None = refused in
    cc
read_back line (Err (Shape at)) found refused r prints utf8 e =
    let is : value_in line ≡ Some (record_value r) = ap value_in e ∙ value_in-json_line r prints utf8 in
    let P : Option Json → Type 0 = λ value. IsCause (Shape at) value in
    absurd (no_misfit r at prints (subst P is refused))
read_back line (Err Memory) found refused r prints utf8 e = inr refl
