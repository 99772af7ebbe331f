use Rattle.std.proofs.Common.{ℕ, ◌+◌, ◌≤◌, List, sym, subst, ap, ◌∙◌}
use Rattle.std.specs.Prelude.{if◌then◌else◌}
use Rattle.std.proofs.lemmas.Result.{on_ok_weaker}
use Rattle.work_clusters.specs.Works.{is_key, some}
use Rattle.work_clusters.specs.Room.{room_under}
use Rattle.work_clusters.specs.Entries.{works_in, room_in}
use Rattle.work_clusters.proofs.Writing.{one_if, counted-write, works-write, counted-insert_entry, works-insert_entry}
use Rattle.work_clusters.proofs.Steps.{room_more, room_new}
use Rattle.work_clusters.proofs.works.Works.make_place.Goals as goal

pub invariant_of-self : goal.invariant_of-self
invariant_of-self c =
    let w = c.make_room.new.self in
    counted-write c.self.inside.rows (c.get_mut.follows.lender w) c.args.key.now c.in-Some.work.now w (c.get_mut.follows.holds w) c.in-Some.ensures.value
    c.self.inside.filled _ c.self.invariant c.make_room.ensures.ascending (ap (λ ids. c.self.inside.filled + one_if (some ids)) (sym c.make_room.ensures.ids))

pub returns-in-Some-clause-works : goal.returns-in-Some-clause-works
returns-in-Some-clause-works c =
    let w = c.make_room.new.self in
    works-write c.self.inside.rows (c.get_mut.follows.lender w) c.args.key.now c.in-Some.work.now w (c.get_mut.follows.holds w) c.in-Some.ensures.value c.make_room.ensures.ids ∙ ap (λ v. v.works) c.self.view_is

pub returns-in-Some-clause-room : goal.returns-in-Some-clause-room
returns-in-Some-clause-room c =
    let w = c.make_room.new.self in
    on_ok_weaker c.make_room.result (λ more.
    subst (λ v. (q : List ℕ) → room_under v.room q + (if is_key q c.args.key.now then 1 else 0) ≤ room_under (room_in (c.get_mut.follows.lender w).entries) q) c.self.view_is
    (room_more c.self.inside.rows (c.get_mut.follows.lender w) c.args.key.now c.in-Some.work.now w (c.get_mut.follows.holds w) c.in-Some.ensures.value c.self.invariant.well (invariant_of-self c).well more)) c.make_room.ensures.room

pub invariant_of-self-in-None : goal.invariant_of-self-in-None
invariant_of-self-in-None c =
    let entries = rw (c.get_mut.follows.holds-at-none, c.in_ok-copied-in-None.ensures) at c.in_ok-insert-in-None.ensures.entries in
    counted-insert_entry c.args.key.now c.self.inside.rows.entries _ c.in_ok-work-in-None.work c.self.inside.filled c.self.invariant (sym c.in-None.ensures.value)
    entries c.insert.ensures.ordered (ap (λ w. w.ids) c.in_ok-work-in-None.ensures)

pub returns-in_ok-insert-in-None-clause-works : goal.returns-in_ok-insert-in-None-clause-works
returns-in_ok-insert-in-None-clause-works c =
    let entries = rw (c.get_mut.follows.holds-at-none, c.in_ok-copied-in-None.ensures) at c.in_ok-insert-in-None.ensures.entries in
    ap works_in entries ∙ works-insert_entry c.args.key.now c.self.inside.rows.entries c.in_ok-work-in-None.work (sym c.in-None.ensures.value) (ap (λ w. w.ids) c.in_ok-work-in-None.ensures)
    ∙ ap (λ v. v.works) c.self.view_is

pub returns-in_ok-insert-in-None-clause-room : goal.returns-in_ok-insert-in-None-clause-room
returns-in_ok-insert-in-None-clause-room c =
    let writes = rw (c.get_mut.follows.holds-at-none, c.in_ok-copied-in-None.ensures) at c.in_ok-insert-in-None.ensures.updates in
    subst (λ v. (q : List ℕ) → room_under v.room q + (if is_key q c.args.key.now then 1 else 0) ≤ room_under (room_in c.insert.new.self.entries) q) c.self.view_is
    (room_new c.self.inside.rows.entries c.insert.new.self.entries c.args.key.now c.in_ok-work-in-None.work (sym c.in-None.ensures.value) writes.0 (ap (λ w. w.room) c.in_ok-work-in-None.ensures))
