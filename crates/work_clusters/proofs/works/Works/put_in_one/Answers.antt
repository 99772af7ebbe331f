use Rattle.std.proofs.Common.{arith, [], ◌∷◌, ◌<◌, sym, subst}
use Rattle.work_clusters.specs.Room.{room_under}
use Rattle.work_clusters.specs.Steps.{PutsIn}
use Rattle.work_clusters.proofs.Reading.{length-works_in}
use Rattle.work_clusters.proofs.Writing.{counted-write, first_entered}
use Rattle.work_clusters.proofs.Steps.{seen, puts_in_at, room_at, no_room}
use Rattle.work_clusters.proofs.works.Works.put_in_one.Goals as goal

pub enter-requires : goal.enter-requires
enter-requires c =
    let room = subst (λ v. 0 < room_under v.room c.args.key.now) (sym c.self.view_is) c.requires in
    omega (arith, room, room_at c.self.inside.rows.entries c.args.key.now c.in-Some.work.now c.in-Some.ensures.value)

pub overflow_add-self : goal.overflow_add-self
overflow_add-self c = omega (arith, c.self.invariant.count, length-works_in c.self.inside.rows.entries, c.len-rows.ensures.len, c.len-rows.ensures.small)

pub invariant_of-self : goal.invariant_of-self
invariant_of-self c =
    let w = c.enter.new.self in
    counted-write c.self.inside.rows (c.get_mut.follows.lender w) c.args.key.now c.in-Some.work.now w (c.get_mut.follows.holds w) c.in-Some.ensures.value
    c.self.inside.filled _ c.self.invariant c.enter.ensures.ascending (omega (arith, first_entered c.args.id c.in-Some.work.now.ids w.ids _ c.enter.ensures.ids c.if-enter.ensures.first))

pub invariant_of-self-else-enter : goal.invariant_of-self-else-enter
invariant_of-self-else-enter c =
    let w = c.enter.new.self in
    counted-write c.self.inside.rows (c.get_mut.follows.lender w) c.args.key.now c.in-Some.work.now w (c.get_mut.follows.holds w) c.in-Some.ensures.value
    c.self.inside.filled _ c.self.invariant c.enter.ensures.ascending (omega (arith, first_entered c.args.id c.in-Some.work.now.ids w.ids _ c.enter.ensures.ids c.if-enter.ensures.first))

pub returns-then-enter : goal.returns-then-enter
returns-then-enter c =
    let w = c.enter.new.self in
    subst (λ v. PutsIn v (seen (c.get_mut.follows.lender w).entries) ((c.args.key.now, c.args.id) ∷ [])) c.self.view_is
    (puts_in_at c.self.inside.rows (c.get_mut.follows.lender w) c.args.key.now c.in-Some.work.now w (c.get_mut.follows.holds w) c.in-Some.ensures.value
    c.self.invariant.well (invariant_of-self c).well c.args.id c.enter.ensures.ids c.enter.ensures.room)

pub returns-else-enter : goal.returns-else-enter
returns-else-enter c =
    let w = c.enter.new.self in
    subst (λ v. PutsIn v (seen (c.get_mut.follows.lender w).entries) ((c.args.key.now, c.args.id) ∷ [])) c.self.view_is
    (puts_in_at c.self.inside.rows (c.get_mut.follows.lender w) c.args.key.now c.in-Some.work.now w (c.get_mut.follows.holds w) c.in-Some.ensures.value
    c.self.invariant.well (invariant_of-self-else-enter c).well c.args.id c.enter.ensures.ids c.enter.ensures.room)

-- a key with room is there
pub returns-in_default : goal.returns-in_default
returns-in_default c =
    let room = subst (λ v. 0 < room_under v.room c.args.key.now) (sym c.self.view_is) c.requires in
    absurd (omega (arith, room, no_room c.self.inside.rows.entries c.args.key.now (sym c.in_default.ensures.value)))
