use Rattle.std.proofs.Common.{◌≡◌, false, refl}
use Rattle.swoosh_resolver.specs.Changes.{without}
use Rattle.swoosh_resolver.specs.Insertions.{IsMatchAt}
use Rattle.swoosh_resolver.proofs.Standing.{can-merged_kept}
use Rattle.swoosh_resolver.proofs.Views.{All-of_view, fits-kept, merges-kept}
use Rattle.swoosh_resolver.proofs.blocks.Blocks.merge_kept.Goals as goal

pub first_kept-requires-clause-look : goal.first_kept-requires-clause-look
first_kept-requires-clause-look g c = c.requires.look

pub first_kept-requires-clause-beside : goal.first_kept-requires-clause-beside
first_kept-requires-clause-beside g c b is =
    rw c.as_slice.ensures.value
    (All-of_view c.args.self.now.blocks c.args.change.now.closed.items c.args.change.now.opened.items (λ w. g.R.Resolvable.meets b.value w ≡ false) (c.requires.stands.beside b is)).0

pub returns-in_ok-push-in-Some-clause-merged : goal.returns-in_ok-push-in-Some-clause-merged
returns-in_ok-push-in-Some-clause-merged g c =
    let blocks = c.args.self.now.blocks in
    let closed = c.args.change.now.closed.items in
    let opened = c.args.change.now.opened.items in
    let value = c.args.value.now.value in
    let found : IsMatchAt g.R.Resolvable.meets (without blocks closed) value c.in-Some.number c.in-Some.block.now = rw (c.as_slice.ensures.value, c.in-Some.is) at c.first_kept.ensures.found in
    rw c.in_ok-push-in-Some.ensures.items
    (merges-kept blocks closed opened g.met.R.Join.join_laws g.met.R.Resolvable.match_laws value c.in-Some.block.now c.in_ok-merged-in-Some.merged.value c.in-Some.number found c.in_ok-merged-in-Some.ensures.value)

pub returns-in_ok-push-in-Some-clause-fits : goal.returns-in_ok-push-in-Some-clause-fits
returns-in_ok-push-in-Some-clause-fits g c =
    let blocks = c.args.self.now.blocks in
    let closed = c.args.change.now.closed.items in
    let opened = c.args.change.now.opened.items in
    let value = c.args.value.now.value in
    let found : IsMatchAt g.R.Resolvable.meets (without blocks closed) value c.in-Some.number c.in-Some.block.now = rw (c.as_slice.ensures.value, c.in-Some.is) at c.first_kept.ensures.found in
    rw c.in_ok-push-in-Some.ensures.items (fits-kept blocks closed opened c.requires.fits c.in-Some.number found.by found.stands)

pub returns-in_ok-push-in-Some-clause-stands : goal.returns-in_ok-push-in-Some-clause-stands
returns-in_ok-push-in-Some-clause-stands g c =
    let blocks = c.args.self.now.blocks in
    let closed = c.args.change.now.closed.items in
    let opened = c.args.change.now.opened.items in
    let value = c.args.value.now.value in
    let found : IsMatchAt g.R.Resolvable.meets (without blocks closed) value c.in-Some.number c.in-Some.block.now = rw (c.as_slice.ensures.value, c.in-Some.is) at c.first_kept.ensures.found in
    rw c.in_ok-push-in-Some.ensures.items
    (can-merged_kept g.R.Resolvable.meets blocks closed opened c.requires.fits c.args.value.now.base c.requires.stands c.in-Some.number found.by c.in-Some.block.now found.stands found.is c.in_ok-merged-in-Some.merged.base c.in_ok-merged-in-Some.ensures.base)

pub returns-in-None-clause-none : goal.returns-in-None-clause-none
returns-in-None-clause-none g c = (refl, refl, rw (c.as_slice.ensures.value, c.in-None.is) at c.first_kept.ensures.none)

pub returns-in-None-clause-fits : goal.returns-in-None-clause-fits
returns-in-None-clause-fits g c = c.requires.fits

pub returns-in_err-merged-in-Some-clause-cost : goal.returns-in_err-merged-in-Some-clause-cost
returns-in_err-merged-in-Some-clause-cost g c = rw c.as_slice.ensures.value at c.first_kept.ensures.cost

pub returns-in_err-push-in-Some-clause-cost : goal.returns-in_err-push-in-Some-clause-cost
returns-in_err-push-in-Some-clause-cost g c = rw c.as_slice.ensures.value at c.first_kept.ensures.cost

pub returns-in_ok-push-in-Some-clause-cost : goal.returns-in_ok-push-in-Some-clause-cost
returns-in_ok-push-in-Some-clause-cost g c = rw c.as_slice.ensures.value at c.first_kept.ensures.cost

pub returns-in-None-clause-cost : goal.returns-in-None-clause-cost
returns-in-None-clause-cost g c = rw c.as_slice.ensures.value at c.first_kept.ensures.cost
