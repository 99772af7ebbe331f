use Rattle.std.proofs.Common.{◌≡◌, get_or, length, arith, rules}
use Rattle.feature_index.proofs.ThreePlaces.{three_places, gains_first, gains_second, gains_third}
use Rattle.feature_index.proofs.places.put_in.Goals as goal

pub returns-then-number-first-clause-numbers : goal.returns-then-number-first-clause-numbers
returns-then-number-first-clause-numbers c =
    let p = c.args.places in
    let all : length p ≡ 3 = search rules in
    rw (three_places p all) (gains_first (get_or p 0 0) (get_or p 1 0) (get_or p 2 0) c.args.number c.args.count c.requires.room)

pub returns-then-number-second-clause-numbers : goal.returns-then-number-second-clause-numbers
returns-then-number-second-clause-numbers c =
    let p = c.args.places in
    let all : length p ≡ 3 = search rules in
    rw (three_places p all) (gains_second (get_or p 0 0) (get_or p 1 0) (get_or p 2 0) c.args.number c.args.count (omega arith) c.requires.room)

pub returns-else-number-second-clause-numbers : goal.returns-else-number-second-clause-numbers
returns-else-number-second-clause-numbers c =
    let p = c.args.places in
    let all : length p ≡ 3 = search rules in
    rw (three_places p all) (gains_third (get_or p 0 0) (get_or p 1 0) (get_or p 2 0) c.args.number c.args.count (omega arith) c.requires.room)
