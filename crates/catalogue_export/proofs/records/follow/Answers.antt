use Rattle.catalogue_export.proofs.RecordLaws.{withdrawn-next}
use Rattle.catalogue_export.proofs.records.follow.Goals as goal

pub returns-in_ok-copied-in-Withdraw : goal.returns-in_ok-copied-in-Withdraw
returns-in_ok-copied-in-Withdraw c = λ editions up h.
    withdrawn-next c.args.holdings.now.entries c.remove.new.self.entries editions c.args.library.now c.args.op.now c.in-Withdraw.number c.in_ok-copied-in-Withdraw.field-0
    c.new-key.result c.in-Withdraw.is c.in_ok-copied-in-Withdraw.ensures c.new-key.ensures c.remove.ensures.updates.0 up h
