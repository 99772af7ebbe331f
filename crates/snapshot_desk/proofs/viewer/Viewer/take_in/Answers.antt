use Rattle.std.proofs.Common.{◌≡◌, ◌∙◌, ap, subst, sym, arith, length, List}
use mathlib.Core.List.{IsPrefix}
use Rattle.snapshot_desk.specs.Counting.{numbers_of}
use Rattle.snapshot_desk.specs.States.{Viewing}
use Rattle.snapshot_desk.proofs.Prefixes.{prefix_more, prefix_next, prefix_length, prefix_trans}
use Rattle.snapshot_desk.proofs.viewer.Viewer.take_in.Goals as goal

pub invariant_of-self-2 : goal.invariant_of-self-2
invariant_of-self-2 c =
    let all = c.learn.new.self.log in
    let seen = c.self.inside.catalogue.history in
    let before = prefix_trans seen c.self.inside.reached.log all c.self.invariant.1 c.learn.ensures.2 in
    let longer = prefix_length c.self.inside.reached.log all c.learn.ensures.2 in
    let place : c.args.next.place ≡ length seen = c.requires.place ∙ ap (λ (v : Viewing). length v.seen) (sym c.self.view_is) in (
      c.self.invariant.0 ∙ ap numbers_of (sym c.learn.ensures.0),
      subst (λ (l : List _). IsPrefix l all) (sym c.in_ok-apply_batch.ensures.appended)
          (prefix_next seen all c.args.next.place c.args.next.reached.log (record { pass = c.args.next.pass; batch = c.args.next.batch }) before c.learn.ensures.3 c.args.next.last.0 c.args.next.last.1 place),
      omega (arith, longer, c.self.invariant.2),
      c.in_ok-apply_batch.ensures.names ∙ c.self.invariant.3,
    )

pub returns-in_err-apply_batch-clause-learnt : goal.returns-in_err-apply_batch-clause-learnt
returns-in_err-apply_batch-clause-learnt c =
    rw (← c.self.view_is) (prefix_more c.self.inside.owed c.self.inside.owed c.self.inside.reached.log c.learn.new.self.log c.self.invariant.2 c.learn.ensures.2 (omega arith))

pub returns-clause-learnt : goal.returns-clause-learnt
returns-clause-learnt c =
    rw (← c.self.view_is) (prefix_more c.self.inside.owed c.self.inside.owed c.self.inside.reached.log c.learn.new.self.log c.self.invariant.2 c.learn.ensures.2 (omega arith))
