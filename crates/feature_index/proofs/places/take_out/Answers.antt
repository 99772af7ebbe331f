use Rattle.std.proofs.Common.{◌≡◌, get_or, length, arith, rules}
use Rattle.feature_index.proofs.ThreePlaces.{three_places, loses_first, loses_second, loses_third}
use Rattle.feature_index.proofs.places.take_out.Goals as goal

pub returns-then-number-first-clause-numbers : goal.returns-then-number-first-clause-numbers
returns-then-number-first-clause-numbers c =
    let p = c.args.places in
    let all : length p ≡ 3 = search rules in
    let are = three_places p all in
    rw are (loses_first (get_or p 0 0) (get_or p 1 0) (get_or p 2 0) c.args.number c.args.count c.requires.count (rw are at c.requires.ascending) (rw are at c.requires.present) (omega arith))

pub returns-then-number-second-clause-numbers : goal.returns-then-number-second-clause-numbers
returns-then-number-second-clause-numbers c =
    let p = c.args.places in
    let all : length p ≡ 3 = search rules in
    let are = three_places p all in
    rw are (loses_second (get_or p 0 0) (get_or p 1 0) (get_or p 2 0) c.args.number c.args.count c.requires.count (rw are at c.requires.ascending) (rw are at c.requires.present) (λ e. c.if-number-first.false (omega arith)) (omega arith))

pub returns-else-number-second-clause-numbers : goal.returns-else-number-second-clause-numbers
returns-else-number-second-clause-numbers c =
    let p = c.args.places in
    let all : length p ≡ 3 = search rules in
    let are = three_places p all in
    rw are (loses_third (get_or p 0 0) (get_or p 1 0) (get_or p 2 0) c.args.number c.args.count c.requires.count (rw are at c.requires.ascending) (rw are at c.requires.present) (λ e. c.if-number-first.false (omega arith)) (λ e. c.if-number-second.false (omega arith)))
