use Rattle.std.proofs.Common.{◌≡◌}
use Rattle.std.specs.Prelude.{Contains}
use Rattle.feature_index.specs.Postings.{Posting, Loses}
use Rattle.feature_index.proofs.RowPlaces.{row-read, row-written, others-written, rows-written}
use Rattle.feature_index.proofs.postings.Postings.remove_at.Goals as goal

pub remove-requires : goal.remove-requires
remove-requires g c =
    let row = c.pair_mut-found in
    row-read g.met.K.Eq.laws c.self.inside.rows row.ensures.unique c.args.place row.result.0.now row.result.1.now row.ensures.value (λ (x : Posting). Contains x.numbers c.args.number) (rw (← c.self.view_is) at c.requires.present)

pub returns-clause-numbers : goal.returns-clause-numbers
returns-clause-numbers g c =
    let row = c.pair_mut-found in
    rw (← c.self.view_is) (row-written g.met.K.Eq.laws c.self.inside.rows row.ensures.unique c.args.place row.result.0.now row.result.1.now row.ensures.value (λ (x y : Posting). Loses x.numbers y.numbers c.args.number) c.remove.new.self c.remove.ensures.numbers)

pub returns-clause-spare : goal.returns-clause-spare
returns-clause-spare g c =
    let row = c.pair_mut-found in
    rw (← c.self.view_is) (row-written g.met.K.Eq.laws c.self.inside.rows row.ensures.unique c.args.place row.result.0.now row.result.1.now row.ensures.value (λ (x y : Posting). y.spare ≡ x.spare) c.remove.new.self c.remove.ensures.spare)

pub returns-clause-others : goal.returns-clause-others
returns-clause-others g c =
    let row = c.pair_mut-found in
    rw (← c.self.view_is) (others-written g.met.K.Eq.laws c.self.inside.rows row.ensures.unique c.args.place row.result.0.now row.result.1.now row.ensures.value c.remove.new.self)

pub returns-clause-rows : goal.returns-clause-rows
returns-clause-rows g c =
    let row = c.pair_mut-found in
    rw (← c.self.view_is) (rows-written c.self.inside.rows c.args.place c.remove.new.self)
