use Rattle.std.proofs.Common.{◌≤◌, sym, subst, arith, length}
use Rattle.std.specs.Prelude.{take}
use mathlib.Core.List.{IsPrefix}
use Rattle.snapshot_desk.proofs.Prefixes.{prefix_trans, prefix_under}
use Rattle.snapshot_desk.specs.States.{Viewing}
use Rattle.snapshot_desk.proofs.viewer.Viewer.view.Goals as goal

pub returns-clause-told : goal.returns-clause-told
returns-clause-told c =
    let seen = c.self.inside.catalogue.history in
    let known = c.self.inside.reached.log in
    let enough : c.self.inside.owed ≤ length seen = omega (arith, c.if-turns-self.false, c.turns-turns.ensures.value) in
    let learnt : IsPrefix c.args.self.now.learnt (take c.self.inside.owed known) = subst (λ (v : Viewing). IsPrefix c.args.self.now.learnt v.learnt) (sym c.self.view_is) c.in_ok-take_new.ensures.learnt in
    subst (λ (v : Viewing). IsPrefix c.args.self.now.learnt v.seen) c.self.view_is
    (prefix_trans c.args.self.now.learnt (take c.self.inside.owed known) seen learnt (prefix_under c.self.inside.owed seen known c.self.invariant.1 enough))
