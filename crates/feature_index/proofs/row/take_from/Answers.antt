use Rattle.std.proofs.Common.{◌≡◌, ◌<◌, length, slice_index_or}
use Rattle.feature_index.proofs.Ascending.{gap-from_search, found-from_search, absent-from_gap, Ascends-remove, Loses-remove}
use Rattle.feature_index.proofs.row.take_from.Goals as goal

pub returns-in-Ok-clause-ascending : goal.returns-in-Ok-clause-ascending
returns-in-Ok-clause-ascending c =
    let xs = c.args.list.now.items in
    let place = c.in-Ok.place in
    let found : (place < length xs) × (slice_index_or xs place 0 ≡ c.args.number) = found-from_search xs c.args.number place c.requires.ascending (rw c.as_slice.ensures.value at c.in-Ok.ensures.position) in
    rw c.remove.ensures.items (Ascends-remove xs place c.requires.ascending found.0)

pub returns-in-Ok-clause-numbers : goal.returns-in-Ok-clause-numbers
returns-in-Ok-clause-numbers c =
    let xs = c.args.list.now.items in
    let place = c.in-Ok.place in
    let found : (place < length xs) × (slice_index_or xs place 0 ≡ c.args.number) = found-from_search xs c.args.number place c.requires.ascending (rw c.as_slice.ensures.value at c.in-Ok.ensures.position) in
    rw c.remove.ensures.items (Loses-remove xs c.args.number place c.requires.ascending found.0 found.1)

-- the search finds a number that is there
pub returns-in_default-clause-numbers : goal.returns-in_default-clause-numbers
returns-in_default-clause-numbers c =
    let xs = c.args.list.now.items in
    let gap = gap-from_search xs c.args.number c.in_default.field-0 c.requires.ascending (rw c.as_slice.ensures.value at c.in_default.ensures.position) in
    absurd (absent-from_gap xs c.args.number c.in_default.field-0 gap c.requires.present)

pub returns-in_default-clause-size : goal.returns-in_default-clause-size
returns-in_default-clause-size c =
    let xs = c.args.list.now.items in
    let gap = gap-from_search xs c.args.number c.in_default.field-0 c.requires.ascending (rw c.as_slice.ensures.value at c.in_default.ensures.position) in
    absurd (absent-from_gap xs c.args.number c.in_default.field-0 gap c.requires.present)
