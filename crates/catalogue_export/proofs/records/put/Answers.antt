use Rattle.catalogue_export.proofs.RecordLaws.{loaded-next}
use Rattle.catalogue_export.proofs.records.put.Goals as goal

pub returns : goal.returns
returns c = λ editions h.
    loaded-next c.args.holdings.now.entries c.insert.new.self.entries editions c.args.edition.now c.least-id.result.now c.in_ok-of.field-0 c.in_ok-content.field-0
    c.least-id.ensures c.in_ok-of.ensures c.in_ok-content.ensures c.in_ok-insert.ensures.updates.0 h
