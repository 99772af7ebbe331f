-- The holdings of a record: what its fields 852 tell (MARC 21, 852, Location).
use Rattle.std.specs.Prelude.{ℕ, ◌==◌, List, [], map, find, codes}
use Rattle.std.specs.Option.{option_map_or}
use Rattle.union_base.specs.Bodies.{Subfield, Body, Control, Data}
use Rattle.union_base.specs.declared.field.Field.{Field}
use Rattle.union_base.specs.declared.record_id.RecordId.{RecordId}
use Rattle.marc_parts.specs.Parts.{fields_under}
use Rattle.holdings_book.specs.declared.holdings.Holding.{Holding}

-- the text of the first subfield with that code, empty where there is none
abbrev pub first_text : ℕ → List Subfield → List ℕ
first_text code subfields = option_map_or (λ s. s.text) (find (λ s. s.code == code) subfields) []

-- the same of what a field has after its tag; a control field has no subfields
abbrev pub text_in : ℕ → Body → List ℕ
text_in code (Control text) = []
text_in code (Data ind1 ind2 subfields) = first_text code subfields

-- the holding that one field tells: its location $a, its sublocation $b and its classification part $h
abbrev pub holding_of : RecordId → Body → Holding
holding_of id body = record {
  id = id;
  location = text_in 0x61 body;
  sublocation = text_in 0x62 body;
  classification = text_in 0x68 body;
}

-- a holding for each field 852, in the order of the fields
abbrev pub holdings_of : RecordId → List Field → List Holding
holdings_of id fields = map (λ f. holding_of id f.body) (fields_under (codes "852") fields)
