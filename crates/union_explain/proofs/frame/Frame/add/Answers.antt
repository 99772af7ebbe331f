use Rattle.std.proofs.Common.{◌≡◌, false, sym, ◌∙◌, arith}
use Rattle.iso2709_frame.specs.Frames.{is_break}
use Rattle.union_explain.proofs.GatherLaws.{adds_break, adds_kept, adds_counted}
use Rattle.union_explain.proofs.frame.Frame.add.Goals.{else-self-eq0-via-then-self-eq0+else-is_break, else-self-eq0-via-else-self-eq0}
use Rattle.union_explain.proofs.frame.Frame.add.Goals as goal

pub returns-then-is_break : goal.returns-then-is_break
returns-then-is_break c at front h =
    adds_break at front c.args.byte c.self.inside.first c.self.inside.size c.self.inside.ended c.is_ended_by-ended.result c.self.inside.bytes.items (c.self.view_is ∙ h)
    c.is_ended_by-ended.ensures c.if-self-eq0.true (sym c.is_break.ensures ∙ c.if-is_break.true)

pub returns-in_ok-push : goal.returns-in_ok-push
returns-in_ok-push c at front h =
    let no_break : c.self.inside.size ≡ 0 → is_break c.args.byte ≡ false = λ none. elim c.else-self-eq0.branch [
      | else-self-eq0-via-then-self-eq0+else-is_break w ↦ sym w.is_break.ensures ∙ w.if-is_break.false
      | else-self-eq0-via-else-self-eq0 w ↦ absurd (w.if-self-eq0.false none)
    ] in
    adds_kept at front c.args.byte c.self.inside.first c.self.inside.size c.self.inside.ended c.is_ended_by-ended.result c.self.inside.bytes.items c.push.new.self.items
    (c.self.view_is ∙ h) c.is_ended_by-ended.ensures no_break (omega (arith, c.if-len-lt-LARGEST_FRAME.true, c.len.ensures)) c.in_ok-push.ensures.items

pub returns-else-len-lt-LARGEST_FRAME : goal.returns-else-len-lt-LARGEST_FRAME
returns-else-len-lt-LARGEST_FRAME c at front h =
    let no_break : c.self.inside.size ≡ 0 → is_break c.args.byte ≡ false = λ none. elim c.else-self-eq0.branch [
      | else-self-eq0-via-then-self-eq0+else-is_break w ↦ sym w.is_break.ensures ∙ w.if-is_break.false
      | else-self-eq0-via-else-self-eq0 w ↦ absurd (w.if-self-eq0.false none)
    ] in
    adds_counted at front c.args.byte c.self.inside.first c.self.inside.size c.self.inside.ended c.is_ended_by-ended.result c.self.inside.bytes.items
    (c.self.view_is ∙ h) c.is_ended_by-ended.ensures no_break (omega (arith, c.if-len-lt-LARGEST_FRAME.false, c.len.ensures))
