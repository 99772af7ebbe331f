use Rattle.std.proofs.Common.{◌≡◌, is_ok, true, arith}
use Rattle.std.specs.Prelude.{insert}
use Rattle.feature_index.proofs.Ascending.{IsGap, gap-from_search, Ascends-insert, Gains-insert}
use Rattle.feature_index.proofs.row.put_among.Goals as goal

-- the number goes into its gap
pub returns-in-Err-clause-ascending : goal.returns-in-Err-clause-ascending
returns-in-Err-clause-ascending c =
    let xs = c.args.list.now.items in
    let place = c.in-Err.place in
    let gap : IsGap xs c.args.number place = gap-from_search xs c.args.number place c.requires.ascending (rw c.as_slice.ensures.value at c.in-Err.ensures.position) in
    let fits : is_ok c.insert.result ≡ true = c.insert.ensures.succeeds (omega arith) in
    let items : c.insert.new.self.items ≡ insert xs place c.args.number = rw fits at c.insert.ensures.items in
    rw items (Ascends-insert xs c.args.number place c.requires.ascending gap)

pub returns-in-Err-clause-numbers : goal.returns-in-Err-clause-numbers
returns-in-Err-clause-numbers c =
    let xs = c.args.list.now.items in
    let fits : is_ok c.insert.result ≡ true = c.insert.ensures.succeeds (omega arith) in
    let items : c.insert.new.self.items ≡ insert xs c.in-Err.place c.args.number = rw fits at c.insert.ensures.items in
    rw items (Gains-insert xs c.args.number c.in-Err.place)
