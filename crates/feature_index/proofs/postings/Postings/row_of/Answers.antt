use Rattle.std.proofs.Common.{sym}
use Rattle.feature_index.proofs.RowPlaces.{row-put, rows-kept, rows-written, posting-new, posting-back}
use Rattle.feature_index.proofs.postings.Postings.row_of.Goals as goal

pub returns-in-Some-clause-place : goal.returns-in-Some-clause-place
returns-in-Some-clause-place g c =
    let (x, here, same) = row-put g.met.K.Eq.laws c.args.key c.self.inside.rows c.insert_full.new.self c.in_ok-place.place c.in_ok-place.ensures.index (rw c.empty.ensures at c.in_ok-place.ensures.entries) (rw c.empty.ensures at c.in_ok-place.ensures.updates) in
    (x, rows-written c.insert_full.new.self c.in_ok-place.place c.in-Some.row c.in_ok-place.place x here, same)

pub returns-in-Some-clause-postings : goal.returns-in-Some-clause-postings
returns-in-Some-clause-postings g c =
    let found = c.pair_mut-found in
    rw (← c.self.view_is)
    (posting-back g.met.K.Eq.laws c.args.key c.self.inside.rows c.insert_full.new.self c.in_ok-place.place c.in_ok-place.ensures.index (rw c.empty.ensures at c.in_ok-place.ensures.entries) (rw c.empty.ensures at c.in_ok-place.ensures.updates) c.in-Some.row
    (sym (rw c.in-Some.is at c.in_ok-place.ensures.old)) found.ensures.unique found.result.0.now found.result.1.now found.ensures.value)

pub returns-in-Some-clause-rows : goal.returns-in-Some-clause-rows
returns-in-Some-clause-rows g c =
    rw (← c.self.view_is)
    (λ place k here. rows-written c.insert_full.new.self c.in_ok-place.place c.in-Some.row place k (rows-kept g.met.K.Eq.laws c.args.key c.self.inside.rows c.insert_full.new.self c.in_ok-place.place c.in_ok-place.ensures.index (rw c.empty.ensures at c.in_ok-place.ensures.entries) (rw c.empty.ensures at c.in_ok-place.ensures.updates) place k here))

pub returns-in-None-clause-place : goal.returns-in-None-clause-place
returns-in-None-clause-place g c = row-put g.met.K.Eq.laws c.args.key c.self.inside.rows c.insert_full.new.self c.in_ok-place.place c.in_ok-place.ensures.index (rw c.empty.ensures at c.in_ok-place.ensures.entries) (rw c.empty.ensures at c.in_ok-place.ensures.updates)

pub returns-in-None-clause-postings : goal.returns-in-None-clause-postings
returns-in-None-clause-postings g c = rw (← c.self.view_is) (posting-new g.met.K.Eq.laws c.args.key c.self.inside.rows c.insert_full.new.self c.in_ok-place.place c.in_ok-place.ensures.index (rw c.empty.ensures at c.in_ok-place.ensures.entries) (rw c.empty.ensures at c.in_ok-place.ensures.updates) (sym (rw c.in-None.is at c.in_ok-place.ensures.old)))

pub returns-in-None-clause-rows : goal.returns-in-None-clause-rows
returns-in-None-clause-rows g c = rw (← c.self.view_is) (rows-kept g.met.K.Eq.laws c.args.key c.self.inside.rows c.insert_full.new.self c.in_ok-place.place c.in_ok-place.ensures.index (rw c.empty.ensures at c.in_ok-place.ensures.entries) (rw c.empty.ensures at c.in_ok-place.ensures.updates))
