use Rattle.union_base.specs.Both.{both_true}
use Rattle.union_base.specs.Fields.{is_tag, fits_tag}
use Rattle.marc_json.proofs.TextLaws.{tag_text}
use Rattle.marc_json.proofs.writing.write_field.Goals as goal

pub as_text-requires : goal.as_text-requires
as_text-requires c =
    let f = c.args.field.now in
    tag_text f.tag (both_true (is_tag f.tag) (fits_tag f.tag f.body) f.well_formed).0
