use Rattle.std.proofs.Common.{Some, ◌∙◌, sym, ap, ◌∷◌}
use Rattle.atomic_table.specs.Table.{rest}
use Rattle.catalogue_lock.proofs.desk.Desk.take_out.Goals as goal

pub exchange-requires : goal.exchange-requires
exchange-requires g c = let h = c.requires.hand in (c.requires.desk, (Some h.0, h.1 ∙ sym (ap (λ l. (0, Some h.0) ∷ rest l) h.1)))
