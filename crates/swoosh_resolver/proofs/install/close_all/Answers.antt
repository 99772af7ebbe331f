use Rattle.std.proofs.Common.{◌≡◌, ◌+◌, ◌++◌, ◌∷◌, [], None, take, get_or, sym, ◌∙◌, ap, arith}
use Rattle.std.specs.Prelude.{slice_set}
use Rattle.std.proofs.lemmas.List.{take_more, get_or_default}
use Rattle.swoosh_resolver.proofs.Places.{without-push, block-kept, not-before}
use Rattle.swoosh_resolver.proofs.install.close_all.Goals as goal

pub close-requires-clause-stands : goal.close-requires-clause-stands
close-requires-clause-stands g c =
    let closed = c.args.closed.now in
    let i = c.loop-number.number-index in
    let n = get_or closed i 0 in
    let at : n ≡ get_or closed i n = get_or_default closed i 0 n (omega arith) in
    let kept = block-kept (take i closed) c.args.blocks.now.items n (not-before closed c.requires.distinct i n (omega arith) at) in
    rw (c.loop-number.invariant.blocks, kept) (c.requires.named n (i, omega arith, sym at))

pub loop-number-preserved : goal.loop-number-preserved
loop-number-preserved g c =
    let closed = c.args.closed.now in
    let i = c.loop-number.number-index in
    let longer : take (i + 1) closed ≡ take i closed ++ get_or closed i 0 ∷ [] = take_more closed i 0 (omega arith) in
    record {
      blocks = rw (longer, without-push c.args.blocks.now.items (take i closed) (get_or closed i 0)) (c.close.ensures.blocks ∙ ap (λ b. slice_set b (get_or closed i 0) None) c.loop-number.invariant.blocks);
      posted = c.close.ensures.posted;
      placed = c.close.ensures.placed;
      rows = λ place k at. c.close.ensures.rows place k (c.loop-number.invariant.rows place k at);
      spares = λ k. c.close.ensures.spares k ∙ c.loop-number.invariant.spares k;
      capacity = c.close.ensures.capacity ∙ c.loop-number.invariant.capacity;
    }
