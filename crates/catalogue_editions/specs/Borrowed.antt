-- Lists of fields and of contents that are borrowed from where they lie.
use Rattle.std.specs.Prelude.{List, map}
use Rattle.std.specs.Borrow.{Bor}
use Rattle.union_base.specs.declared.field.Field.{Field}
use Rattle.field_merge.specs.declared.content.Content.{Content}

-- the fields themselves
abbrev pub fields_of : List (Bor Field) → List Field
fields_of borrowed = map (λ f. f.now) borrowed

-- the contents themselves
abbrev pub contents_of : List (Bor Content) → List Content
contents_of borrowed = map (λ c. c.now) borrowed
