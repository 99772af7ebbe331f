use Rattle.std.proofs.Common.{◌∙◌, sym, ap}
use Rattle.marc_fields.specs.Rows.{fails}
use Rattle.marc_fields.specs.declared.rules.Rule.TheVariants.{DataShape}
use Rattle.marc_fields.proofs.FieldReading.{shape_failure-control, shape_failure-data, shape_failure-none}
use Rattle.marc_fields.proofs.fields.check_shapes.Goals as goal

pub returns-in-Some : goal.returns-in-Some
returns-in-Some c = shape_failure-control c.args.bytes.now c.args.entries.now c.in-Some.place (sym c.in-Some.ensures)

pub returns-in-Some-first_misshaped : goal.returns-in-Some-first_misshaped
returns-in-Some-first_misshaped c =
    shape_failure-data c.args.bytes.now c.args.entries.now (sym c.in_default.ensures) ∙ ap (fails DataShape) (sym c.in-Some-first_misshaped.ensures)

pub returns : goal.returns
returns c = (shape_failure-none c.args.bytes.now c.args.entries.now (sym c.in_default.ensures) (sym c.in_default-first_misshaped.ensures), tt)
