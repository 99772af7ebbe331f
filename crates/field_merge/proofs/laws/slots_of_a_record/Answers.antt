use Rattle.std.specs.Prelude.{codes}
use Rattle.marc_parts.specs.Parts.{has_tag}
use Rattle.field_merge.specs.Contents.{is_main_entry}
use Rattle.field_merge.specs.Ranks.{rank}
use Rattle.field_merge.proofs.Gathering.{slot-within, title-within}
use Rattle.field_merge.proofs.laws.slots_of_a_record.Goals as goal

pub returns : goal.returns
returns c = record {
  f005 = λ prefer library r. slot-within (rank prefer library r) (has_tag (codes "005")) r.fields;
  f010 = λ prefer library r. slot-within (rank prefer library r) (has_tag (codes "010")) r.fields;
  f040 = λ prefer library r. slot-within (rank prefer library r) (has_tag (codes "040")) r.fields;
  f1xx = λ prefer library r. slot-within (rank prefer library r) is_main_entry r.fields;
  f240 = λ prefer library r. slot-within (rank prefer library r) (has_tag (codes "240")) r.fields;
  f245 = λ prefer library r loadable. title-within r loadable;
}
