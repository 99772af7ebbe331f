use Rattle.marc_rules.proofs.CheckLaws.{frame-IsWhole}
use Rattle.catalogue_export.proofs.WholeLaws.{spelling-ends}
use Rattle.union_json.proofs.judging.judge_record.Goals as goal

-- a frame that spells a record is whole
pub judge_frame-requires : goal.judge_frame-requires
judge_frame-requires c =
    let spells = c.in-Ok.ensures.spells in
    rw (c.in-Ok.ensures.written, c.requires) (frame-IsWhole _ (record { size = spells.short; ends = spelling-ends c.args.rec.now spells.codes }))
