-- Fields in order of their tags.
use Rattle.std.specs.Prelude.{Bool, List, [], ◌∷◌, if◌then◌else◌}
use Rattle.std.specs.Ordering.{nat_cmp, is_lt}
use Rattle.std.specs.Cmp.Lexicographic.{slice_cmp}
use Rattle.union_base.specs.declared.field.Field.{Field}

-- the tag of the first is less
abbrev pub is_lower : Field → Field → Bool
is_lower f g = is_lt (slice_cmp nat_cmp f.tag g.tag)

-- a field put before the first one whose tag is no less
abbrev pub put_by_tag : Field → List Field → List Field
put_by_tag f [] = f ∷ []
put_by_tag f (g ∷ fields) = (if is_lower g f then g ∷ put_by_tag f fields else f ∷ g ∷ fields)

-- the fields in order of their tags, those of one tag in their order
abbrev pub in_tag_order : List Field → List Field
in_tag_order [] = []
in_tag_order (f ∷ fields) = put_by_tag f (in_tag_order fields)
