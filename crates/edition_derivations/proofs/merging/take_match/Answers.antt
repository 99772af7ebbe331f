use Rattle.std.proofs.Common.{◌<◌, length}
use Rattle.std.proofs.lemmas.List.Sorted.{IsPermutation-swap_remove}
use Rattle.edition_derivations.proofs.merging.take_match.Goals as goal

pub returns-in-Some-clause-taken : goal.returns-in-Some-clause-taken
returns-in-Some-clause-taken c =
    let done = c.args.done.now.items in
    let within : c.in-Some.at < length done = rw c.as_slice.ensures.value at c.in-Some.ensures.within in
    rw c.swap_remove.ensures.items (IsPermutation-swap_remove done c.in-Some.at c.swap_remove.result within c.swap_remove.ensures.value)

pub returns-in-Some-clause-matches : goal.returns-in-Some-clause-matches
returns-in-Some-clause-matches c =
    let found = rw c.as_slice.ensures.value at (c.in-Some.ensures.found c.swap_remove.result) in
    rw (← c.swap_remove.ensures.value) at found
