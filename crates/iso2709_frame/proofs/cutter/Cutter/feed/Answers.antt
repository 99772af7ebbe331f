use Rattle.std.proofs.Common.{◌≡◌, ◌||◌, nat_lt, cond, [], ◌++◌, length, drop, Option, Some, ◌≢◌, subst, ap, sym, ◌∙◌, arith}
use Rattle.iso2709_frame.specs.Cutting.{Cutting, told, too_long}
use Rattle.iso2709_frame.specs.Frames.{frames, first_piece, skip_breaks, IsWhole}
use Rattle.iso2709_frame.specs.Phases.{settled_of, pending_of, frame_of, IsGathered}
use Rattle.iso2709_frame.specs.declared.cut.Cut.{Cut}
use Rattle.iso2709_frame.specs.declared.cut.Cut.TheVariants.{Whole, Truncated}
use Rattle.iso2709_frame.specs.declared.cutter.Phase.{Phase}
use Rattle.iso2709_frame.proofs.PieceLaws.{frames-fed, IsGathered-fed, IsWhole-settled, length-first_piece, first_piece-some, settled_of-kind}
use Rattle.iso2709_frame.proofs.cutter.Cutter.feed.Goals as goal

pub invariant_of-self : goal.invariant_of-self
invariant_of-self c =
    let before = c.resumed-overfull.new.held.items in
    let held = c.gather-overfull.new.held.items in
    let kept : held ≡ cond c.gather-overfull.result [] (skip_breaks (before ++ first_piece c.args.piece.now))
    = c.gather-overfull.ensures.held ∙ ap (λ p. cond c.gather-overfull.result [] (skip_breaks (before ++ p))) c.first_part-ended.ensures.part in
    let settled = c.settled-phase.ensures in
    record {
      room = c.gather-overfull.ensures.room;
      size = c.gather-overfull.ensures.size;
      gathered = subst (λ (s : Phase × Option Cut). IsGathered s.0 held) (sym settled)
          (IsGathered-fed c.first_part-ended.result.1 c.gather-overfull.result before held c.args.piece.now c.first_part-ended.ensures.ended kept c.resumed-overfull.ensures.open_text);
    }

pub returns-clause-frames : goal.returns-clause-frames
returns-clause-frames c = λ more.
    let before = c.resumed-overfull.new.held.items in
    let held = c.gather-overfull.new.held.items in
    let piece = c.args.piece.now in
    let overfull = c.resumed-overfull.result in
    let over = c.gather-overfull.result in
    let ended = c.first_part-ended.result.1 in
    let part = c.first_part-ended.result.0.now in
    let first : part ≡ first_piece piece = c.first_part-ended.ensures.part in
    let kept : held ≡ cond over [] (skip_breaks (before ++ first_piece piece))
    = c.gather-overfull.ensures.held ∙ ap (λ p. cond over [] (skip_breaks (before ++ p))) first in
    let is : over ≡ (overfull || nat_lt 99999 (length (skip_breaks (before ++ first_piece piece))))
    = c.gather-overfull.ensures.overfull ∙ ap (λ p. overfull || nat_lt 99999 (length (skip_breaks (before ++ p)))) first in
    let waited : c.args.self.now.pending ≡ cond overfull too_long before
    = ap (λ (s : Cutting). s.pending) (sym c.self.view_is) ∙ c.resumed-overfull.ensures.pending in
    let settled : c.settled-phase.result ≡ settled_of over ended = c.settled-phase.ensures in
    ap (λ p. frames (p ++ (piece ++ more))) waited
    ∙ (frames-fed ended over overfull before held piece more c.first_part-ended.ensures.ended is kept c.resumed-overfull.ensures.open_text
    ∙ (ap (λ (s : Phase × Option Cut). told s.1 (frame_of s.0 held) ++ frames (pending_of s.0 held ++ (drop (length (first_piece piece)) piece ++ more))) (sym settled)
    ∙ ap (λ p. told c.settled-phase.result.1 (frame_of c.settled-phase.result.0 held) ++ frames (pending_of c.settled-phase.result.0 held ++ (drop (length p) piece ++ more))) (sym first)))

pub returns-clause-whole : goal.returns-clause-whole
returns-clause-whole c =
    let before = c.resumed-overfull.new.held.items in
    let held = c.gather-overfull.new.held.items in
    let piece = c.args.piece.now in
    let overfull = c.resumed-overfull.result in
    let over = c.gather-overfull.result in
    let first = c.first_part-ended.ensures.part in
    let kept : held ≡ cond over [] (skip_breaks (before ++ first_piece piece))
    = c.gather-overfull.ensures.held ∙ ap (λ p. cond over [] (skip_breaks (before ++ p))) first in
    let is : over ≡ (overfull || nat_lt 99999 (length (skip_breaks (before ++ first_piece piece))))
    = c.gather-overfull.ensures.overfull ∙ ap (λ p. overfull || nat_lt 99999 (length (skip_breaks (before ++ p)))) first in
    subst (λ (s : Phase × Option Cut). s.1 ≡ Some Whole → IsWhole (frame_of s.0 held)) (sym c.settled-phase.ensures)
    (IsWhole-settled c.first_part-ended.result.1 over overfull before held piece c.first_part-ended.ensures.ended is kept c.resumed-overfull.ensures.open_text)

pub returns-clause-within : goal.returns-clause-within
returns-clause-within c = omega (arith, ap length c.first_part-ended.ensures.part, length-first_piece c.args.piece.now)

pub returns-clause-some : goal.returns-clause-some
returns-clause-some c = λ some. omega (arith, ap length c.first_part-ended.ensures.part, first_piece-some c.args.piece.now some)

pub returns-clause-kind : goal.returns-clause-kind
returns-clause-kind c = subst (λ (s : Phase × Option Cut). s.1 ≢ Some Truncated) (sym c.settled-phase.ensures) (settled_of-kind c.first_part-ended.result.1 c.gather-overfull.result)
