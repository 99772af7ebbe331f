-- The record that the generator makes of a frame's draws.
use Rattle.std.specs.Prelude.{ℕ, ◌==◌, List, [], ◌∷◌, ◌++◌, codes, if◌then◌else◌}
use Rattle.iso2709_frame.specs.declared.cut.Cut.TheVariants.{Whole}
use Rattle.isbn_keys.specs.Isbn.{check_digit}
use Rattle.marc_leader.specs.Codes.{Codes}
use Rattle.marc_leader.specs.Numeral.{numeral}
use Rattle.union_base.specs.Bodies.{Data}
use Rattle.union_base.specs.declared.field.Field.{Field}
use Rattle.marc_fields.specs.Spelling.{spelling}
use Rattle.marc_parts.specs.declared.marc_record.Record.{Record}
use Rattle.catalogue_export.specs.Exported.{field_of, control_field, subfield}
use Rattle.library_batches.specs.Streams.{Frame}
use Rattle.union_trial.specs.declared.draws.Draws.{Draws}

-- a leader of a book in Unicode, of that status
abbrev pub codes_of_status : ℕ → Codes
codes_of_status status = record {
  status = status;
  kind = 0x61;
  level = 0x6D;
  control = 0x20;
  coding = 0x61;
  encoding = 0x20;
  form = 0x61;
  part = 0x20;
  last = 0x30;
}

-- 001: the control number in eight digits
abbrev pub number_field : Draws → List Field
number_field d = control_field (codes "001") (numeral 8 d.control)

-- the 40 bytes of a field 008 with that year of publication
abbrev pub fixed_text : ℕ → List ℕ
fixed_text year = codes "240101s" ++ (numeral 4 year ++ codes "    xx                  eng d")

-- the ISBN of prefix 978 with these nine digits
abbrev pub isbn_stem : ℕ → List ℕ
isbn_stem number = codes "978" ++ numeral 9 number

-- an ISBN of thirteen with its check digit
abbrev pub isbn_text : ℕ → List ℕ
isbn_text number = isbn_stem number ++ check_digit (isbn_stem number) ∷ []

-- a field with these indicators, and the text in $a
abbrev pub text_field : List ℕ → ℕ → ℕ → List ℕ → List Field
text_field tag ind1 ind2 text = field_of tag (Data ind1 ind2 (subfield 0x61 text ∷ []))

-- the field 008
abbrev pub fixed_field : Draws → List Field
fixed_field d = control_field (codes "008") (fixed_text d.year)

-- the field 020
abbrev pub isbn_field : Draws → List Field
isbn_field d = text_field (codes "020") 0x20 0x20 (isbn_text d.number)

-- the field 100
abbrev pub author_field : Draws → List Field
author_field d = text_field (codes "100") 0x31 0x20 (codes "Author " ++ numeral 8 d.name)

-- the field 245
abbrev pub title_field : Draws → List Field
title_field d = text_field (codes "245") 0x30 0x30 (codes "Title " ++ numeral 8 d.title)

-- the fields of a record that is loaded
abbrev pub load_fields : Draws → List Field
load_fields d = number_field d ++ (fixed_field d ++ (isbn_field d ++ (author_field d ++ title_field d)))

-- a new record; or, one time in ten, a deleted one that has its control number alone
abbrev pub record_of : Draws → Record
record_of d =
    (if d.op == 0
    then record { leader = codes_of_status 0x64; fields = number_field d }
    else record { leader = codes_of_status 0x6E; fields = load_fields d })

-- the frame that spells it
abbrev pub frame_of : Draws → Frame
frame_of d = (Whole, spelling (record_of d))
