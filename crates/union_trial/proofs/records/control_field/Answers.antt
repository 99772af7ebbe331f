use Rattle.std.proofs.Common.{sym, ap, ◌∙◌}
use Rattle.union_base.specs.Bodies.{Body}
use Rattle.catalogue_export.proofs.FieldLaws.{field_of-is}
use Rattle.catalogue_export.specs.Exported.{control_field, field_of}
use Rattle.union_trial.proofs.records.control_field.Goals as goal

pub returns : goal.returns
returns c =
    ap (control_field c.args.tag.now) (sym c.in_ok-text.ensures)
    ∙ ap (λ (body : Body). field_of c.args.tag.now body) (sym c.control.ensures)
    ∙ field_of-is _
