use Rattle.std.proofs.Common.{rules}
use Rattle.std.specs.Prelude.{Option}
use Rattle.std.proofs.lemmas.Fn.{always_returns_same}
use Rattle.union_base.specs.declared.record_id.RecordId.{RecordId}
use Rattle.union_base.specs.RecordIds.{id_cmp}
use Rattle.record_homes.specs.declared.place.Place.{Place}
use Rattle.record_homes.proofs.TouchedLaws.{found-by_halves, missed-by_halves}
use Rattle.record_homes.proofs.ascending_ids.search.Goals as goal

pub returns-in-Ok : goal.returns-in-Ok
returns-in-Ok c =
    let e = c.index-entries-at.result in
    found-by_halves c.args.id.now c.args.entries.now c.in-Ok.at e c.requires c.in-Ok.ensures.bound
    (c.in-Ok.ensures.position (λ (y : RecordId × Option Place). id_cmp y.0 c.args.id.now) (always_returns_same _ _ _ (λ a r f k. (search rules, search rules))) e)

pub returns-in-Err : goal.returns-in-Err
returns-in-Err c =
    missed-by_halves c.args.id.now c.args.entries.now c.in-Err.field-0 c.requires
    (c.in-Err.ensures.position (λ (y : RecordId × Option Place). id_cmp y.0 c.args.id.now) (always_returns_same _ _ _ (λ a r f k. (search rules, search rules))))
