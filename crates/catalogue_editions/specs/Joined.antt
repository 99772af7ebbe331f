-- Contents that are kept as they are, and what they merge to.
use Rattle.std.specs.Prelude.{List, [], Option, Some, None, fold}
use Rattle.std.specs.List.{flat_map}
use Rattle.std.specs.declared.boxed.Box.{Box}
use Rattle.union_base.specs.declared.record_id.RecordId.{RecordId}
use Rattle.field_merge.specs.Merging.{join}
use Rattle.field_merge.specs.declared.content.Content.{Content}
use Rattle.catalogue_editions.specs.declared.contents.Behind.{Behind}

-- what a content and those behind it merge to
abbrev pub joined_all : Content → List Content → Content
joined_all first behind = fold join first behind

-- the contents of all parts, in order
abbrev pub all_in : List (List Content) → List Content
all_in parts = flat_map (λ part. part) parts

-- the parts behind the first content, or none
abbrev pub parts_behind : {Z : Type 0} → Option (Box Behind Z) → List (List Content)
parts_behind (Some more) = more.value.parts.items
parts_behind None = []

-- the contributors that are kept beside the contents, or else those of the only content
abbrev pub kept_contributors : {Z : Type 0} → Content → Option (Box Behind Z) → List RecordId
kept_contributors first (Some more) = more.value.contributors
kept_contributors first None = first.contributors
