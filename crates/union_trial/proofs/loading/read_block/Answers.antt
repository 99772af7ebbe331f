use Rattle.std.proofs.Common.{◌++◌, ◌∷◌, [], length-append, arith, inr, sym, subst, ◌∙◌}
use Rattle.union_trial.specs.Blocks.{AreAsked}
use Rattle.union_trial.specs.Streams.{still_drawn}
use Rattle.union_trial.proofs.BlockLaws.{asked-more}
use Rattle.union_trial.proofs.loading.read_block.Goals as goal

pub returns-in-None : goal.returns-in-None
returns-in-None c =
    let before = c.loop.invariant in
    let none = c.in-None.ensures in
    record {
      taken = before.taken;
      are = subst (λ now. AreAsked c.args.library.now (still_drawn c.args.draws.now) now before.taken c.loop.ops.items) (none.0 ∙ sym none.1) before.are;
      full = inr (none.1, omega (arith, before.size));
    }

pub loop-preserved : goal.loop-preserved
loop-preserved c =
    let before = c.loop.invariant in
    record {
      taken = before.taken ++ c.in-Some.drawn ∷ [];
      are = rw c.in_ok-push-in-Some.ensures.items
          (asked-more c.args.library.now (still_drawn c.args.draws.now) (still_drawn c.loop.draws) (still_drawn c.next.new.self) before.taken c.in-Some.drawn c.loop.ops.items
          c.in_ok-asked-in-Some.asked before.are c.in-Some.ensures c.in_ok-asked-in-Some.ensures.value c.in_ok-asked-in-Some.ensures.own);
      size = omega (arith, length-append before.taken (c.in-Some.drawn ∷ []), before.size);
    }
