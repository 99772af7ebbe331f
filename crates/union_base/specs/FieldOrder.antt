-- The order of fields: by tag, then by the bytes as a record spells them.
use Rattle.std.specs.declared.cmp.Ordering.{Ordering}
use Rattle.std.specs.Ordering.{nat_cmp, then_cmp, on}
use Rattle.std.specs.Cmp.Lexicographic.{slice_cmp}
use Rattle.union_base.specs.Fields.{spelled}
use Rattle.union_base.specs.declared.field.Field.{Field}

-- fields are compared by tag, and then by the bytes that spell them
abbrev pub field_cmp : Field → Field → Ordering
field_cmp = then_cmp (on (λ f. f.tag) (slice_cmp nat_cmp)) (on (λ f. spelled f.body) (slice_cmp nat_cmp))
