use Rattle.std.proofs.Common.{subst, ap, ◌∙◌}
use Rattle.iso2709_frame.specs.Frames.{frames}
use Rattle.iso2709_frame.specs.Phases.{pending_of, IsGathered}
use Rattle.iso2709_frame.specs.declared.cutter.Phase.{Phase}
use Rattle.iso2709_frame.specs.declared.cutter.Phase.TheVariants.{Gathering}
use Rattle.iso2709_frame.proofs.FrameLaws.{frames-too_long}
use Rattle.iso2709_frame.proofs.PieceLaws.{frames-gathered}
use Rattle.iso2709_frame.proofs.cutter.is_left.Goals as goal

pub returns-in-Gathering : goal.returns-in-Gathering
returns-in-Gathering c =
    let held = c.args.held.now in
    let gathered : IsGathered Gathering held = subst (λ (p : Phase). IsGathered p held) c.in-Gathering.is c.requires in
    ap (λ (p : Phase). frames (pending_of p held)) c.in-Gathering.is
    ∙ frames-gathered held c.is_empty.result gathered.0 gathered.1 c.is_empty.ensures

pub returns-in-Overfull : goal.returns-in-Overfull
returns-in-Overfull c = ap (λ (p : Phase). frames (pending_of p c.args.held.now)) c.in-Overfull.is ∙ frames-too_long
