use Rattle.std.proofs.Common.{refl}
use Rattle.std.specs.Prelude.{IsSome, slice_get}
use Rattle.std.proofs.lemmas.List.Sorted.{IsPermutation-refl}
use Rattle.swoosh_resolver.proofs.Splitting.{remove-swapped, within-from_got}
use Rattle.swoosh_resolver.proofs.blocks.Blocks.taken_out.Goals as goal

pub returns-in-Fresh-clause-opened : goal.returns-in-Fresh-clause-opened
returns-in-Fresh-clause-opened g c =
    let opened = c.args.change.opened.items in
    let i = c.in-Fresh.place in
    let stands : IsSome (slice_get opened i) = rw c.in-Fresh.is at c.requires in
    rw (c.in-Fresh.is, c.swap_remove.ensures.items) (remove-swapped opened i c.swap_remove.result (within-from_got opened i stands))

pub swap_remove-requires : goal.swap_remove-requires
swap_remove-requires g c =
    let opened = c.args.change.opened.items in
    let stands : IsSome (slice_get opened c.in-Fresh.place) = rw c.in-Fresh.is at c.requires in
    within-from_got opened c.in-Fresh.place stands

pub returns-in_ok-push-in-Kept-clause-closed : goal.returns-in_ok-push-in-Kept-clause-closed
returns-in_ok-push-in-Kept-clause-closed g c = rw c.in-Kept.is c.in_ok-push-in-Kept.ensures.items

pub returns-in_ok-push-in-Kept-clause-opened : goal.returns-in_ok-push-in-Kept-clause-opened
returns-in_ok-push-in-Kept-clause-opened g c = rw c.in-Kept.is (IsPermutation-refl c.args.change.opened.items)

pub returns-in-Fresh-clause-closed : goal.returns-in-Fresh-clause-closed
returns-in-Fresh-clause-closed g c = rw c.in-Fresh.is refl
