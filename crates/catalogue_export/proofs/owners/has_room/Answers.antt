use Rattle.std.proofs.Common.{◌+◌, length, sym, ap, ◌∙◌}
use Rattle.catalogue_export.proofs.OwnedLaws.{owned-size, same-room}
use Rattle.catalogue_export.proofs.owners.has_room.Goals as goal

pub returns : goal.returns
returns c =
    same-room _ _ c.saturating_add-both.result c.saturating_add-size.result _ c.saturating_add-both.ensures c.saturating_add-size.ensures
    (owned-size c.args.field.now c.requires c.args.library.now ∙ ap (λ t. length t + (2 + length c.args.library.now)) (sym c.spelling.ensures))
