use Rattle.std.proofs.Common.{sym, ◌∙◌, arith}
use Rattle.union_keys.proofs.PlacedLaws.{IsWhole-cut}
use Rattle.union_keys.proofs.frame_cut.cut_frame.Goals as goal

pub returns-else-frame-gt-LARGEST_FRAME-clause-whole : goal.returns-else-frame-gt-LARGEST_FRAME-clause-whole
returns-else-frame-gt-LARGEST_FRAME-clause-whole c = λ _.
    IsWhole-cut c.args.piece.now c.args.frame.now c.requires.piece c.requires.frame (sym c.is_ended.ensures ∙ c.if-not-is_ended.false)
    (omega (arith, c.if-frame-gt-LARGEST_FRAME.false))
