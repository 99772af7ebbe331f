use Rattle.std.proofs.Common.{◌≡◌, [], Option, Some, None, cond, ap, sym, ◌∙◌}
use Rattle.iso2709_frame.specs.Cutting.{Cutting, told}
use Rattle.iso2709_frame.specs.Frames.{frames}
use Rattle.iso2709_frame.specs.Phases.{pending_of}
use Rattle.iso2709_frame.specs.declared.cut.Cut.{Cut}
use Rattle.iso2709_frame.specs.declared.cut.Cut.TheVariants.{Truncated}
use Rattle.iso2709_frame.proofs.cutter.Cutter.finish.Goals as goal
use Rattle.iso2709_frame.proofs.cutter.Cutter.finish.Goals.{then-left, else-left}

pub returns-clause-frames : goal.returns-clause-frames
returns-clause-frames c =
    let answered : cond c.is_left-left.result (Some Truncated) None ≡ c.if-left.result = elim c.if-left.branch [
      | then-left w ↦ ap (λ t. cond t (Some Truncated) None) w.if-left.true ∙ sym w.result-is
      | else-left w ↦ ap (λ t. cond t (Some Truncated) None) w.if-left.false ∙ sym w.result-is
    ] in
    ap (λ (s : Cutting). frames s.pending) (sym c.self.view_is)
    ∙ (ap (λ held. frames (pending_of c.self.inside.phase held)) (sym c.as_slice.ensures.value)
    ∙ (c.is_left-left.ensures ∙ ap (λ (o : Option Cut). told o []) answered))
