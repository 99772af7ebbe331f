use Rattle.serde_json.specs.View.{view}
use Rattle.marc_json.proofs.ShapeLaws.{no_data}
use Rattle.marc_json.proofs.reading.data_in.Goals as goal

pub returns-in_default : goal.returns-in_default
returns-in_default c = no_data c.args.tag.now (view c.args.value.now) c.requires c.in_default.ensures.missing
