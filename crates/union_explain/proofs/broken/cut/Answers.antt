use Rattle.std.proofs.Common.{sym, subst, ◌∙◌}
use Rattle.std.proofs.lemmas.Bool.{and_parts, leb-true}
use Rattle.iso2709_frame.specs.Frames.{IsWhole}
use Rattle.marc_rules.proofs.CheckLaws.{frame-IsWhole}
use Rattle.union_explain.proofs.broken.cut.Goals as goal

pub returns-then-is_whole-clause-whole : goal.returns-then-is_whole-clause-whole
returns-then-is_whole-clause-whole c = λ _.
    let both = and_parts _ _ (sym c.is_whole.ensures ∙ c.if-is_whole.true) in
    subst IsWhole c.bytes.ensures (frame-IsWhole _ (record { size = leb-true _ _ both.0; ends = both.1 }))
