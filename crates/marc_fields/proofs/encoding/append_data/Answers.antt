use Rattle.std.proofs.Common.{take, map}
use Rattle.std.specs.List.{flat_map}
use Rattle.marc_fields.specs.Spelling.{stored}
use Rattle.marc_fields.proofs.AppendingLaws.{Appends-refused, front_kept}
use Rattle.marc_fields.proofs.encoding.append_data.Goals as goal

pub returns-in_err-append_body : goal.returns-in_err-append_body
returns-in_err-append_body g c =
    Appends-refused c.from_residual.result c.args.into.now.items c.append_body.new.into.items (flat_map stored (map g.F.HasField.field c.args.fields.now))
    c.from_residual.ensures.0
    (front_kept c.args.into.now.items c.loop-each.into.items c.append_body.new.into.items
    (flat_map stored (map g.F.HasField.field (take c.loop-each.each-index c.args.fields.now))) c.loop-each.invariant (c.in_err-append_body.ensures))
