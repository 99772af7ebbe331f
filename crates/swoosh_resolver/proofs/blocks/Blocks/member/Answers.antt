use Rattle.std.proofs.Common.{◌≡◌, ℕ, ◌∷◌, Some, length, refl, sym, ap, subst}
use Rattle.std.specs.Prelude.{slice_get}
use Rattle.std.specs.List.Sorted.{IsPermutation}
use Rattle.std.proofs.lemmas.Option.{slice_get_read, slice_get_past}
use Rattle.swoosh_resolver.specs.declared.change.Place.TheVariants.{Kept, Fresh}
use Rattle.swoosh_resolver.specs.Tables.{Entry}
use Rattle.swoosh_resolver.specs.Changes.{view_of}
use Rattle.swoosh_resolver.specs.Splits.{others_of}
use Rattle.swoosh_resolver.proofs.Splitting.{taken-at, others-from_member}
use Rattle.swoosh_resolver.proofs.blocks.Blocks.member.Goals as goal

pub returns-in-Kept-clause-others : goal.returns-in-Kept-clause-others
returns-in-Kept-clause-others g c =
    let is = rw c.as_slice.ensures.value at c.open_block.ensures in
    rw c.in-Kept.is (others-from_member c.args.self.now.blocks c.args.change.now.closed.items c.args.change.now.opened.items (Kept c.in-Kept.number) c.open_block.result is)

pub returns-in-Some-clause-value : goal.returns-in-Some-clause-value
returns-in-Some-clause-value g c =
    let opened = c.args.change.now.opened.items in
    let read = rw c.as_slice-in-Fresh.ensures.value at c.in-Some.ensures.lookup in
    let there : slice_get opened c.in-Fresh.place ≡ Some c.in-Some.placed.now = slice_get_read opened (length opened) c.in-Fresh.place c.in-Some.placed.now refl read.3.0 read.1 in
    rw (c.in-Fresh.is, there) (ap (λ (e : Entry g.row.R.Denot ℕ). Some e.value) c.placed.view_is)

pub returns-in-Some-clause-others : goal.returns-in-Some-clause-others
returns-in-Some-clause-others g c =
    let blocks = c.args.self.now.blocks in
    let closed = c.args.change.now.closed.items in
    let opened = c.args.change.now.opened.items in
    let read = rw c.as_slice-in-Fresh.ensures.value at c.in-Some.ensures.lookup in
    let there : slice_get opened c.in-Fresh.place ≡ Some c.in-Some.placed.now = slice_get_read opened (length opened) c.in-Fresh.place c.in-Some.placed.now refl read.3.0 read.1 in
    rw (c.in-Fresh.is)
    (subst (λ (e : Entry g.row.R.Denot ℕ). IsPermutation (view_of blocks closed opened) (e.value ∷ others_of blocks closed opened (Fresh c.in-Fresh.place))) (sym c.placed.view_is)
    (taken-at blocks closed opened (Fresh c.in-Fresh.place) c.in-Some.placed.now there))

pub returns-in-None-clause-value : goal.returns-in-None-clause-value
returns-in-None-clause-value g c =
    let opened = c.args.change.now.opened.items in
    let past = rw c.as_slice-in-Fresh.ensures.value at c.in-None.ensures.lookup in
    rw (c.in-Fresh.is, slice_get_past opened c.in-Fresh.place past.3) refl
