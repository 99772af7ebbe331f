use Rattle.std.proofs.Common.{length, refl}
use Rattle.std.proofs.lemmas.Option.{slice_get_read}
use Rattle.union_keys.specs.Tables.{table}
use Rattle.union_keys.proofs.TableLaws.{keys-next, keys-last}
use Rattle.union_keys.proofs.table.table.Goals as goal

pub loop-place-preserved : goal.loop-place-preserved
loop-place-preserved c =
    let all = c.args.standings.now in
    let place = c.loop-place.place in
    let s = c.index-standings-place.result in
    keys-next all place s c.loop-place.text.items c.add_loaded.new.text.items (table all)
    (slice_get_read all (length all) place s refl c.loop-place-test.true c.index-standings-place.is) c.in_ok-add_loaded.ensures
    c.loop-place.invariant

pub returns : goal.returns
returns c =
    let all = c.args.standings.now in
    keys-last all c.loop-place.place c.loop-place.text.items (table all) c.loop-place-test.false c.loop-place.invariant
