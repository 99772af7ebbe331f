use Rattle.std.proofs.Common.{arith, [], ◌∷◌, sym, subst}
use Rattle.work_clusters.specs.Steps.{TakesOut}
use Rattle.work_clusters.proofs.Writing.{count-write, counted-write, last_left}
use Rattle.work_clusters.proofs.Steps.{seen, takes_out_at, takes_out_gap}
use Rattle.work_clusters.proofs.works.Works.take_out_one.Goals as goal

pub overflow_sub-self : goal.overflow_sub-self
overflow_sub-self c =
    let w = c.leave.new.self in
    omega (
      arith,
      c.self.invariant.count,
      count-write c.self.inside.rows (c.get_mut.follows.lender w) c.args.key.now c.in-Some.work.now w (c.get_mut.follows.holds w) c.in-Some.ensures.value,
      last_left _ c.in-Some.work.now.ids w.ids _ c.leave.ensures.ids c.if-leave.ensures.last,
    )

pub invariant_of-self : goal.invariant_of-self
invariant_of-self c =
    let w = c.leave.new.self in
    counted-write c.self.inside.rows (c.get_mut.follows.lender w) c.args.key.now c.in-Some.work.now w (c.get_mut.follows.holds w) c.in-Some.ensures.value
    c.self.inside.filled _ c.self.invariant c.leave.ensures.ascending (omega (
      arith,
      c.self.invariant.count,
      last_left _ c.in-Some.work.now.ids w.ids _ c.leave.ensures.ids c.if-leave.ensures.last,
      count-write c.self.inside.rows (c.get_mut.follows.lender w) c.args.key.now c.in-Some.work.now w (c.get_mut.follows.holds w) c.in-Some.ensures.value,
    ))

pub invariant_of-self-else-leave : goal.invariant_of-self-else-leave
invariant_of-self-else-leave c =
    let w = c.leave.new.self in
    counted-write c.self.inside.rows (c.get_mut.follows.lender w) c.args.key.now c.in-Some.work.now w (c.get_mut.follows.holds w) c.in-Some.ensures.value
    c.self.inside.filled c.self.inside.filled c.self.invariant c.leave.ensures.ascending (omega (arith, last_left _ c.in-Some.work.now.ids w.ids _ c.leave.ensures.ids c.if-leave.ensures.last))

pub returns-then-leave : goal.returns-then-leave
returns-then-leave c =
    let w = c.leave.new.self in
    subst (λ v. TakesOut v (seen (c.get_mut.follows.lender w).entries) ((c.args.key.now, c.args.id.now) ∷ [])) c.self.view_is
    (takes_out_at c.self.inside.rows (c.get_mut.follows.lender w) c.args.key.now c.in-Some.work.now w (c.get_mut.follows.holds w) c.in-Some.ensures.value
    c.self.invariant.well (invariant_of-self c).well c.args.id.now c.leave.ensures.ids c.leave.ensures.room)

pub returns-else-leave : goal.returns-else-leave
returns-else-leave c =
    let w = c.leave.new.self in
    subst (λ v. TakesOut v (seen (c.get_mut.follows.lender w).entries) ((c.args.key.now, c.args.id.now) ∷ [])) c.self.view_is
    (takes_out_at c.self.inside.rows (c.get_mut.follows.lender w) c.args.key.now c.in-Some.work.now w (c.get_mut.follows.holds w) c.in-Some.ensures.value
    c.self.invariant.well (invariant_of-self-else-leave c).well c.args.id.now c.leave.ensures.ids c.leave.ensures.room)

pub returns-in_default : goal.returns-in_default
returns-in_default c =
    rw c.get_mut.follows.holds-at-none (subst (λ v. TakesOut v (seen c.self.inside.rows.entries) ((c.args.key.now, c.args.id.now) ∷ [])) c.self.view_is
    (takes_out_gap c.self.inside.rows.entries c.self.invariant.well c.args.key.now (sym c.in_default.ensures.value) c.args.id.now))
