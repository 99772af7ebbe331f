use Rattle.std.proofs.Common.{◌≡◌, ◌+◌, ◌<◌}
use Rattle.std.specs.Prelude.{Contains}
use Rattle.feature_index.specs.Postings.{Posting, Gains}
use Rattle.feature_index.proofs.RowPlaces.{row-read, row-written, others-written, rows-written}
use Rattle.feature_index.proofs.postings.Postings.add_at.Goals as goal

pub add-requires-clause-spare : goal.add-requires-clause-spare
add-requires-clause-spare g c =
    let row = c.pair_mut-found in
    row-read g.met.K.Eq.laws c.self.inside.rows row.ensures.unique c.args.place row.result.0.now row.result.1.now row.ensures.value (λ (x : Posting). 0 < x.spare) (rw (← c.self.view_is) at c.requires.spare)

pub add-requires-clause-absent : goal.add-requires-clause-absent
add-requires-clause-absent g c =
    let row = c.pair_mut-found in
    row-read g.met.K.Eq.laws c.self.inside.rows row.ensures.unique c.args.place row.result.0.now row.result.1.now row.ensures.value (λ (x : Posting). Contains x.numbers c.args.number → ⊥) (rw (← c.self.view_is) at c.requires.absent)

pub returns-clause-numbers : goal.returns-clause-numbers
returns-clause-numbers g c =
    let row = c.pair_mut-found in
    rw (← c.self.view_is) (row-written g.met.K.Eq.laws c.self.inside.rows row.ensures.unique c.args.place row.result.0.now row.result.1.now row.ensures.value (λ (x y : Posting). Gains x.numbers y.numbers c.args.number) c.add.new.self c.add.ensures.numbers)

pub returns-clause-used : goal.returns-clause-used
returns-clause-used g c =
    let row = c.pair_mut-found in
    rw (← c.self.view_is) (row-written g.met.K.Eq.laws c.self.inside.rows row.ensures.unique c.args.place row.result.0.now row.result.1.now row.ensures.value (λ (x y : Posting). y.spare + 1 ≡ x.spare) c.add.new.self c.add.ensures.used)

pub returns-clause-others : goal.returns-clause-others
returns-clause-others g c =
    let row = c.pair_mut-found in
    rw (← c.self.view_is) (others-written g.met.K.Eq.laws c.self.inside.rows row.ensures.unique c.args.place row.result.0.now row.result.1.now row.ensures.value c.add.new.self)

pub returns-clause-rows : goal.returns-clause-rows
returns-clause-rows g c =
    let row = c.pair_mut-found in
    rw (← c.self.view_is) (rows-written c.self.inside.rows c.args.place c.add.new.self)
