use Rattle.std.proofs.lemmas.Result.{on_ok_weaker}
use Rattle.field_merge.specs.Parts.{IsPut}
use Rattle.field_merge.proofs.Gathering.{parts-more}
use Rattle.field_merge.proofs.parts.SlotFields.add.Goals as goal

pub returns : goal.returns
returns c =
    on_ok_weaker c.put.result
    (λ (put : IsPut c.args.rank.now c.part_of.result c.args.field c.args.self.now c.put.new.self) fields old.
    parts-more c.args.rank.now c.part_of.result fields c.args.field _ _ c.part_of.ensures old put)
    c.put.ensures
