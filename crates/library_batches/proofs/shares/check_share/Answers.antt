use Rattle.std.proofs.Common.{◌≡◌, ◌+◌, ◌≤◌, [], ◌∷◌, ◌++◌, length, take, sym, ap, subst, ◌∙◌, arith}
use Rattle.std.proofs.lemmas.List.{length-take-le, take_all, take_more}
use Rattle.library_batches.specs.Streams.{Frame}
use Rattle.library_batches.specs.Blocks.{IsChecked}
use Rattle.library_batches.proofs.shares.check_share.Goals as goal

pub loop-frame-preserved : goal.loop-frame-preserved
loop-frame-preserved c =
    let before = c.loop-frame.invariant in
    let frames = c.args.frames.now in
    let i = c.loop-frame.frame-index in
    let frame = c.frame-item.result in
    let first = c.args.origin.now.number + c.args.start in
    let more : take (i + 1) frames ≡ take i frames ++ frame ∷ [] =
    take_more frames i frame c.loop-frame-test.true ∙ ap (λ (f : Frame). take i frames ++ f ∷ []) (sym c.frame-item.is) in
    let place : c.loop-frame.number ≡ first + length (take i frames) =
    omega (arith, before.place, length-take-le i frames (omega (arith, c.loop-frame-test.true))) in
    record {
      place = omega (arith, before.place);
      checked = subst (λ fs. IsChecked c.args.origin.now.prefer.now c.args.origin.now.library.now first fs c.check.new.ops.items [] c.check.new.refused.items) (sym more)
          (c.in_ok-check.ensures first (take i frames) [] place before.checked);
    }

pub returns : goal.returns
returns c =
    let frames = c.args.frames.now in
    let past : length frames ≤ c.loop-frame.frame-index = omega (arith, c.loop-frame-test.false) in
    subst (λ fs. IsChecked c.args.origin.now.prefer.now c.args.origin.now.library.now (c.args.origin.now.number + c.args.start) fs c.loop-frame.ops.items []
    c.loop-frame.refused.items) (take_all c.loop-frame.frame-index frames past) c.loop-frame.invariant.checked
