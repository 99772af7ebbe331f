-- What an edition shows once, with the rank of the record that it comes from; and which records have it.
use Rattle.std.specs.Prelude.{◌==◌, if◌then◌else◌, Bool, Option, Some, None, bytes_eq}
use Rattle.std.specs.Option.{option_map}
use Rattle.union_base.specs.FieldOrder.{field_cmp}
use Rattle.union_base.specs.SortedLists.{has}
use Rattle.union_base.specs.declared.field.Field.{Field}
use Rattle.field_merge.specs.declared.content.Content.{Content}
use Rattle.field_merge.specs.declared.rank.Rank.{Rank}
use Rattle.edition_sources.specs.declared.shown_once.Part.{Part}
use Rattle.edition_sources.specs.declared.shown_once.Part.TheVariants.{Fixed, Stamp, Number, Source, MainEntry, UniformTitle, Title}
use Rattle.edition_sources.specs.declared.ranking.Reason.{Reason}
use Rattle.edition_sources.specs.declared.ranking.Reason.TheVariants.{Preference, Encoding, Date, Id}

-- the rank of the record that a part of a content comes from, where there is such a part
abbrev pub rank_in : Part → Content → Option Rank
rank_in Fixed c = Some c.fixed.rank
rank_in Stamp c = option_map (λ s. s.rank) c.f005
rank_in Number c = option_map (λ s. s.rank) c.f010
rank_in Source c = option_map (λ s. s.rank) c.f040
rank_in MainEntry c = option_map (λ s. s.rank) c.f1xx
rank_in UniformTitle c = option_map (λ s. s.rank) c.f240
rank_in Title c = Some c.f245.rank

-- its field; the leader's codes and 008 are no field
abbrev pub field_in : Part → Content → Option Field
field_in Fixed c = None
field_in Stamp c = option_map (λ s. s.field) c.f005
field_in Number c = option_map (λ s. s.field) c.f010
field_in Source c = option_map (λ s. s.field) c.f040
field_in MainEntry c = option_map (λ s. s.field) c.f1xx
field_in UniformTitle c = option_map (λ s. s.field) c.f240
field_in Title c = Some c.f245.field

-- the first of the parts of a rank in which two ranks differ: the library's place in the preference, how full the record is by its
-- encoding level, the date of its 005, and else its id
abbrev pub why_above : Rank → Rank → Reason
why_above x y =
    (if x.level == y.level
    then (if x.class == y.class then (if bytes_eq x.stamp y.stamp then Id else Date) else Encoding)
    else Preference)

-- the field is one of the content's united fields
abbrev pub has_united : Field → Content → Bool
has_united f c = has field_cmp c.united f
