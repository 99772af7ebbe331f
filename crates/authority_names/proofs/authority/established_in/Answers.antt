use Rattle.authority_names.specs.Records.{is_heading}
use Rattle.authority_names.proofs.RecordLaws.{found_field_texts}
use Rattle.authority_names.proofs.authority.established_in.Goals as goal

pub name_of-requires : goal.name_of-requires
name_of-requires c = found_field_texts is_heading c.args.fields.now c.requires c.first_heading.result c.first_heading.ensures c.in-Some.field c.in-Some.is
