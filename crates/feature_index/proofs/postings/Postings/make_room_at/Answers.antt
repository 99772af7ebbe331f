use Rattle.std.proofs.Common.{◌≡◌, ◌+◌, ◌≤◌, refl, arith}
use Rattle.feature_index.specs.Postings.{Posting}
use Rattle.feature_index.proofs.RowPlaces.{row-written, each-written, rows-written, OnOk-then}
use Rattle.feature_index.proofs.postings.Postings.make_room_at.Goals as goal

pub returns-clause-numbers : goal.returns-clause-numbers
returns-clause-numbers g c =
    let row = c.pair_mut-found in
    rw (← c.self.view_is) (each-written g.met.K.Eq.laws c.self.inside.rows row.ensures.unique c.args.place row.result.0.now row.result.1.now row.ensures.value (λ (x y : Posting). y.numbers ≡ x.numbers) c.make_room.new.self c.make_room.ensures.numbers (λ x. refl))

pub returns-clause-kept : goal.returns-clause-kept
returns-clause-kept g c =
    let row = c.pair_mut-found in
    rw (← c.self.view_is) (each-written g.met.K.Eq.laws c.self.inside.rows row.ensures.unique c.args.place row.result.0.now row.result.1.now row.ensures.value (λ (x y : Posting). x.spare ≤ y.spare) c.make_room.new.self c.make_room.ensures.kept (λ x. omega arith))

pub returns-clause-room : goal.returns-clause-room
returns-clause-room g c =
    let row = c.pair_mut-found in
    rw (← c.self.view_is) (OnOk-then c.make_room.result _ _ (λ more. row-written g.met.K.Eq.laws c.self.inside.rows row.ensures.unique c.args.place row.result.0.now row.result.1.now row.ensures.value (λ (x y : Posting). x.spare + 1 ≤ y.spare) c.make_room.new.self (omega arith)) c.make_room.ensures.room)

pub returns-clause-rows : goal.returns-clause-rows
returns-clause-rows g c =
    let row = c.pair_mut-found in
    rw (← c.self.view_is) (rows-written c.self.inside.rows c.args.place c.make_room.new.self)
