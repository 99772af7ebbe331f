use Rattle.std.proofs.Common.{Bor, map}
use Rattle.catalogue_editions.specs.declared.edition.Edition.{Edition}
use Rattle.edition_blocks.proofs.DeltaLaws.{left-rises, come-rises, delta-told}
use Rattle.edition_blocks.proofs.telling.delta_of.Goals as goal

pub only_in-requires-clause-own : goal.only_in-requires-clause-own
only_in-requires-clause-own c =
    rw c.as_slice-3.ensures.value
    (left-rises c.args.blocks.now.blocks c.args.change.now.closed.items c.args.change.now.opened.items c.requires.apart c.requires.fits
    (map (λ (e : Bor Edition). e.now) c.in_ok-closing.closing.items) (map (λ (e : Bor Edition). e.now) c.in_ok-closing-2.closing.items)
    (rw c.as_slice.ensures.value at c.in_ok-closing.ensures) c.in_ok-closing-2.ensures.same c.in_ok-closing-2.ensures.ascending)

pub only_in-requires-clause-others : goal.only_in-requires-clause-others
only_in-requires-clause-others c =
    rw c.as_slice-4.ensures.value
    (come-rises c.args.blocks.now.blocks c.args.change.now.closed.items c.args.change.now.opened.items c.requires.apart c.requires.fits
    (map (λ (e : Bor Edition). e.now) c.in_ok-opening.opening.items) (map (λ (e : Bor Edition). e.now) c.in_ok-opening-2.opening.items)
    (rw c.as_slice-2.ensures.value at c.in_ok-opening.ensures) c.in_ok-opening-2.ensures.same c.in_ok-opening-2.ensures.ascending)

pub only_in-requires-2-clause-own : goal.only_in-requires-2-clause-own
only_in-requires-2-clause-own c =
    rw c.as_slice-5.ensures.value
    (come-rises c.args.blocks.now.blocks c.args.change.now.closed.items c.args.change.now.opened.items c.requires.apart c.requires.fits
    (map (λ (e : Bor Edition). e.now) c.in_ok-opening.opening.items) (map (λ (e : Bor Edition). e.now) c.in_ok-opening-2.opening.items)
    (rw c.as_slice-2.ensures.value at c.in_ok-opening.ensures) c.in_ok-opening-2.ensures.same c.in_ok-opening-2.ensures.ascending)

pub only_in-requires-2-clause-others : goal.only_in-requires-2-clause-others
only_in-requires-2-clause-others c =
    rw c.as_slice-6.ensures.value
    (left-rises c.args.blocks.now.blocks c.args.change.now.closed.items c.args.change.now.opened.items c.requires.apart c.requires.fits
    (map (λ (e : Bor Edition). e.now) c.in_ok-closing.closing.items) (map (λ (e : Bor Edition). e.now) c.in_ok-closing-2.closing.items)
    (rw c.as_slice.ensures.value at c.in_ok-closing.ensures) c.in_ok-closing-2.ensures.same c.in_ok-closing-2.ensures.ascending)

pub returns : goal.returns
returns c =
    delta-told c.args.blocks.now.blocks c.args.change.now.closed.items c.args.change.now.opened.items c.requires.apart c.requires.fits
    (map (λ (e : Bor Edition). e.now) c.in_ok-closing.closing.items) (map (λ (e : Bor Edition). e.now) c.in_ok-opening.opening.items)
    (map (λ (e : Bor Edition). e.now) c.in_ok-closing-2.closing.items) (map (λ (e : Bor Edition). e.now) c.in_ok-opening-2.opening.items)
    c.in_ok-closed.closed.items c.in_ok-opened.opened.items
    (rw c.as_slice.ensures.value at c.in_ok-closing.ensures) (rw c.as_slice-2.ensures.value at c.in_ok-opening.ensures)
    c.in_ok-closing-2.ensures.same c.in_ok-opening-2.ensures.same
    (rw (c.as_slice-3.ensures.value, c.as_slice-4.ensures.value) at c.in_ok-closed.ensures)
    (rw (c.as_slice-5.ensures.value, c.as_slice-6.ensures.value) at c.in_ok-opened.ensures)
