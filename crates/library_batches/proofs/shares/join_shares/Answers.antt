use Rattle.std.proofs.Common.{◌∷◌, sym, ap, ◌∙◌}
use Rattle.std.proofs.lemmas.List.{nil_from_length}
use Rattle.library_batches.proofs.ShareLaws.{joined-none, joined-more, joined-all, joined-front}
use Rattle.library_batches.proofs.shares.join_shares.Goals as goal

pub loop-made-init : goal.loop-made-init
loop-made-init c = λ prefer library size start frames shares.
    joined-none prefer library size start frames c.args.parts.items c.into_iter-made-iterator.result.rest.items c.new-ops.result.items c.args.refused.now.items
    c.into_iter-made-iterator.ensures.into_iter_gives.0 c.new-ops.ensures.items shares

pub loop-made-preserved : goal.loop-made-preserved
loop-made-preserved c = λ prefer library size start frames shares.
    let rest = c.next.new.self.rest.items in
    joined-more prefer library size start frames c.loop-made.made-iterator.rest.items rest c.in_ok-part.part c.loop-made.ops.items c.add_share.new.ops.items
    c.args.refused.now.items c.loop-made.refused.items c.add_share.new.refused.items (c.in-Some.ensures.steps.0 ∙ ap (λ made. made ∷ rest) c.in_ok-part.was)
    c.in_ok-add_share.ensures.ops c.in_ok-add_share.ensures.refused (c.loop-made.invariant prefer library size start frames shares)

pub returns-clause-checked : goal.returns-clause-checked
returns-clause-checked c = λ prefer library size start frames shares.
    joined-all prefer library size start frames c.loop-made.made-iterator.rest.items c.loop-made.ops.items c.args.refused.now.items c.loop-made.refused.items
    (nil_from_length _ (sym c.loop-made.made-iterator.rest.ok.0 ∙ c.in-None.ensures.steps.0)) (c.loop-made.invariant prefer library size start frames shares)

pub returns-clause-kept : goal.returns-clause-kept
returns-clause-kept c = λ prefer library size start frames shares.
    joined-front prefer library size start frames c.loop-made.made-iterator.rest.items c.loop-made.ops.items c.args.refused.now.items c.loop-made.refused.items
    (c.loop-made.invariant prefer library size start frames shares)
