-- What a field has after its tag, as contracts see it (ISO 2709; MARC 21, 'Variable fields').
use Rattle.std.specs.Prelude.{ℕ, List, []}

-- a subfield: its code and its text
pub record Subfield : Type 0 where
  pub code : ℕ
  pub text : List ℕ

-- a control field's text, or a data field's two indicators and its subfields
pub data Body : Type 0 where
  Control : List ℕ → Body
  Data : ℕ → ℕ → List Subfield → Body

-- the subfields of a data field; a control field has none
abbrev pub subfields_of : Body → List Subfield
subfields_of (Control text) = []
subfields_of (Data ind1 ind2 subfields) = subfields
