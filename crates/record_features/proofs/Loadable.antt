-- The texts of a record that can be loaded are UTF-8.
use Rattle.std.proofs.Common.{◌≡◌, Bool, true, ◌&&◌, List, [], ◌∷◌, All, IsTrue, IsUtf8}
use Rattle.std.specs.List.{list_all}
use Rattle.std.proofs.lemmas.Str.{IsUtf8-from_is_utf8}
use Rattle.std.proofs.lemmas.List.Elements.{All-nil, All-cons}
use Rattle.union_base.specs.Both.{both_true}
use Rattle.union_base.specs.Bodies.{Subfield, Body, Control, Data, subfields_of}
use Rattle.marc_parts.specs.declared.marc_record.Record.{Record}
use Rattle.marc_parts.specs.Loads.{is_utf8_subfield, is_utf8_body, is_utf8_field, is_load_status, is_numbered, is_described, is_loadable}
use Rattle.workset_keys.specs.Names.{HasTexts}

all_from : {X : Type 0} (p : X → Bool) (P : X → Type 0) → ((x : X) → p x ≡ true → P x) → (xs : List X) → list_all p xs ≡ true → All P xs
all_from p P each [] h = All-nil P
all_from p P each (x ∷ xs) h =
    let parts = both_true (p x) (list_all p xs) h in
    All-cons P x xs (each x parts.0) (all_from p P each xs parts.1)

body_texts : (body : Body) → is_utf8_body body ≡ true → All (λ (s : Subfield). IsUtf8 s.text) (subfields_of body)
body_texts (Control text) h = All-nil (λ (s : Subfield). IsUtf8 s.text)
body_texts (Data first second subfields) h =
    all_from is_utf8_subfield (λ (s : Subfield). IsUtf8 s.text) (λ s e. IsUtf8-from_is_utf8 s.text e) subfields h

pub loadable_texts : (r : Record) → IsTrue (is_loadable r) → All HasTexts r.fields
loadable_texts r h =
    let parts = both_true (is_load_status r.leader.status && is_numbered r) (is_described r && list_all is_utf8_field r.fields) h in
    all_from is_utf8_field HasTexts (λ f e. body_texts f.body e) r.fields (both_true (is_described r) (list_all is_utf8_field r.fields) parts.1).1
