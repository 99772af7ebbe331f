use Rattle.std.proofs.Common.{◌≡◌, sym, subst, arith, List}
use mathlib.Core.List.{IsPrefix}
use Rattle.snapshot_desk.proofs.Prefixes.{prefix_trans, prefix_whole}
use Rattle.snapshot_desk.proofs.publisher.Publisher.close.Goals as goal

pub returns : goal.returns
returns g c =
    let published = c.self.inside.reached.log in
    let seen = c.viewer.inside.catalogue.history in
    let known = c.viewer.inside.reached.log in
    let both = c.learn.new.self.log in
    let all = c.whole-all.result.log in
    let mine : IsPrefix published all = prefix_trans published both all (subst (λ s. IsPrefix s.log both) c.again-both.ensures c.learn.ensures.2) c.whole-all.ensures.log in
    let same : published ≡ all = prefix_whole published all mine (omega (arith, c.whole-all.ensures.count, c.self.invariant.1)) in
    let theirs : IsPrefix seen all = prefix_trans seen known all c.viewer.invariant.1 (prefix_trans known both all c.learn.ensures.3 c.whole-all.ensures.log) in
    rw (← c.self.view_is, ← c.viewer.view_is) (subst (λ (l : List _). IsPrefix seen l) (sym same) theirs)
