-- The forms of a field's subfields, read from the start.
use Rattle.std.specs.Prelude.{ℕ, ◌==◌, ◌&&◌, Bool, not, if◌then◌else◌, List, map}
use Rattle.union_base.specs.Bodies.{Subfield}
use Rattle.naco_normal.specs.declared.heading.FirstPart.{FirstPart}
use Rattle.naco_normal.specs.declared.heading.FirstPart.TheVariants.{WithComma, Behind}
use Rattle.naco_normal.specs.Heading.{main_code, chosen, part_forms, form_with_comma, form_without_comma, form_skipping}
use Rattle.naco_normal.specs.Words.{joined_words}

-- the form of the first $a
abbrev pub first_form : FirstPart → List ℕ → List ℕ
first_form WithComma text = form_with_comma text
first_form (Behind skip) text = form_skipping skip text

-- the form of a subfield, where a $a was seen before it or not
abbrev pub subfield_form : FirstPart → Bool → Subfield → List ℕ
subfield_form first seen s =
    if (s.code == main_code) && not seen then first_form first s.text else form_without_comma s.text

-- what the subfields add, where a $a was seen before them or not
abbrev pub parts_of : FirstPart → Bool → List ℕ → List Subfield → List ℕ
parts_of first seen codes subfields =
    joined_words
    (if seen
    then map (λ s. form_without_comma s.text) (chosen codes subfields)
    else part_forms (first_form first) form_without_comma (chosen codes subfields))
