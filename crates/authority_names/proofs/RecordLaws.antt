-- The texts of fields that are UTF-8.
use Rattle.std.proofs.Common.{◌≡◌, Bool, true, false, if◌then◌else◌, List, [], ◌∷◌, refl, sym, ap, subst, ◌∙◌, Bor}
use Rattle.std.specs.Prelude.{All, IsUtf8, Option, Some, find, option_copied}
use Rattle.std.specs.List.{list_all}
use Rattle.std.proofs.lemmas.Str.{IsUtf8-from_is_utf8}
use Rattle.std.proofs.lemmas.List.Elements.{All-nil, All-cons, All-head, All-tail}
use Rattle.union_base.specs.Both.{both_true}
use Rattle.union_base.specs.Bodies.{Subfield, Body, Control, Data, subfields_of}
use Rattle.union_base.specs.declared.field.Field.{Field}
use Rattle.marc_parts.specs.Loads.{is_utf8_subfield, is_utf8_body, is_utf8_field}
use Rattle.workset_keys.specs.Names.{HasTexts}

all_from : {X : Type 0} (p : X → Bool) (P : X → Type 0) → ((x : X) → p x ≡ true → P x) → (xs : List X) → list_all p xs ≡ true → All P xs
all_from p P each [] h = All-nil P
all_from p P each (x ∷ xs) h =
    let parts = both_true (p x) (list_all p xs) h in
    All-cons P x xs (each x parts.0) (all_from p P each xs parts.1)

body_texts : (body : Body) → is_utf8_body body ≡ true → All (λ (s : Subfield). IsUtf8 s.text) (subfields_of body)
body_texts (Control text) h = All-nil (λ (s : Subfield). IsUtf8 s.text)
body_texts (Data first second subfields) h =
    all_from is_utf8_subfield (λ (s : Subfield). IsUtf8 s.text) (λ s e. IsUtf8-from_is_utf8 s.text e) subfields h

pub texts-from_utf8 : (fields : List Field) → list_all is_utf8_field fields ≡ true → All HasTexts fields
texts-from_utf8 fields h = all_from is_utf8_field HasTexts (λ f e. body_texts f.body e) fields h

-- the first field that passes is one of them
found_texts : (p : Field → Bool) (fields : List Field) → All HasTexts fields → (f : Field) → find p fields ≡ Some f → HasTexts f
found_texts p [] all f e = cc
found_texts p (g ∷ fields) all f e = by (p g) refl (found_texts p fields (All-tail HasTexts g fields all) f)
  where
    by : (b : Bool) → p g ≡ b → (find p fields ≡ Some f → HasTexts f) → HasTexts f
    by true h rest =
        let is : Some g ≡ Some f = ap (λ b. if b then Some g else find p fields) (sym h) ∙ e in
        let same : g ≡ f = cc in
        subst HasTexts same (All-head HasTexts g fields all)
    by false h rest = rest (ap (λ b. if b then Some g else find p fields) (sym h) ∙ e)

pub found_field_texts : (p : Field → Bool) (fields : List Field) → All HasTexts fields → (found : Option (Bor Field)) → option_copied found ≡ find p fields
    → (f : Bor Field) → found ≡ Some f → HasTexts f.now
found_field_texts p fields all found e f is =
    found_texts p fields all f.now (sym e ∙ ap option_copied is)
