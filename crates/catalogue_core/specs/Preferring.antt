-- The editions of the records that some libraries deliver, by a preference, and what no preference changes of an edition.
use Rattle.std.specs.Prelude.{ℕ, List}
use Rattle.std.specs.List.{filter_map}
use Rattle.union_base.specs.declared.field.Field.{Field}
use Rattle.union_base.specs.declared.record_id.RecordId.{RecordId}
use Rattle.marc_parts.specs.declared.marc_record.Record.{Record}
use Rattle.match_features.specs.declared.features.Features.{Features}
use Rattle.record_editions.specs.Records.{edition}
use Rattle.catalogue_editions.specs.declared.edition.Edition.{Edition}

-- each library's record that can be loaded, as the preference makes it an edition
abbrev pub editions_by : List (List ℕ) → List (List ℕ × Record) → List Edition
editions_by prefer records = filter_map (λ delivered. edition prefer delivered.0 delivered.1) records

-- all that an edition has but its fixed part and its slots: the features, the contributors and the united fields
abbrev pub unranked : Edition → Features × List RecordId × List Field
unranked e = (e.features, e.content.contributors, e.content.united)
