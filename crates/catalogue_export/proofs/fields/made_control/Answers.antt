use Rattle.std.proofs.Common.{sym, ap, ◌∙◌}
use Rattle.union_base.specs.Bodies.{Body}
use Rattle.catalogue_export.specs.Exported.{field_of}
use Rattle.catalogue_export.proofs.FieldLaws.{field_of-is}
use Rattle.catalogue_export.proofs.fields.made_control.Goals as goal

pub returns : goal.returns
returns c = ap (λ (body : Body). field_of c.args.tag.now body) (sym c.control.ensures) ∙ field_of-is _
