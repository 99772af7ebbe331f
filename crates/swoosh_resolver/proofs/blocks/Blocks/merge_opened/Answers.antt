use Rattle.std.proofs.Common.{◌≡◌, ℕ, false, refl, subst}
use Rattle.std.specs.Prelude.{◌↔◌, Contains}
use Rattle.swoosh_resolver.specs.Tables.{AreSought, Entry}
use Rattle.swoosh_resolver.specs.Insertions.{TakesMatch}
use Rattle.swoosh_resolver.proofs.Standing.{can-merged_fresh}
use Rattle.swoosh_resolver.proofs.Views.{All-of_view, fits-fresh, merges-taken}
use Rattle.swoosh_resolver.proofs.Whole.{All-opened, led-keys}
use Rattle.swoosh_resolver.proofs.blocks.Blocks.merge_opened.Goals as goal

pub take_match-requires : goal.take_match-requires
take_match-requires g c =
    let blocks = c.args.self.now.blocks in
    let closed = c.args.change.now.closed.items in
    let opened = c.args.change.now.opened.items in
    let value = c.args.value.now.value in
    let keys = c.args.value.now.keys in
    let numbers = c.args.numbers.now in
    let sought : AreSought g.R.Resolvable.meets g.R.Resolvable.is_posted g.R.Resolvable.seeks c.args.value.now.value c.args.value.now.base c.args.value.now.keys =
    subst (λ (e : Entry g.row.R.Denot g.row.R-Key.Denot). AreSought g.R.Resolvable.meets g.R.Resolvable.is_posted g.R.Resolvable.seeks e.value e.base e.keys) c.value.view_is c.value.invariant.0 in
    let shut : (n : ℕ) → Contains c.as_slice-2.result.now n ↔ (Contains numbers n × Contains closed n) = rw (c.as_slice.ensures.value, ← c.as_slice-2.ensures.value) at c.in_ok-shut.ensures in
    record { led = led-keys g.R.Resolvable.meets g.R.Resolvable.is_posted g.R.Resolvable.seeks value c.args.value.now.base keys sought blocks closed numbers c.as_slice-2.result.now c.requires.look shut opened c.requires.fits.based }

pub returns-in-Some-clause-merged : goal.returns-in-Some-clause-merged
returns-in-Some-clause-merged g c =
    let blocks = c.args.self.now.blocks in
    let closed = c.args.change.now.closed.items in
    let opened = c.args.change.now.opened.items in
    let value = c.args.value.now.value in
    let keys = c.args.value.now.keys in
    let numbers = c.args.numbers.now in
    let taken : TakesMatch g.R.Resolvable.meets opened value c.take_match.new.self.items c.in-Some.other = rw c.in-Some.is at c.in_ok-other.ensures.taken in
    merges-taken blocks closed opened g.met.R.Join.join_laws g.met.R.Resolvable.match_laws value c.in_ok-merged-in-Some.merged.value c.take_match.new.self.items c.in-Some.other taken c.in_ok-merged-in-Some.ensures.value

pub merged_fresh-requires : goal.merged_fresh-requires
merged_fresh-requires g c = rw c.in-Some.is at c.in_ok-other.ensures.based

pub returns-in-Some-clause-fits : goal.returns-in-Some-clause-fits
returns-in-Some-clause-fits g c =
    let blocks = c.args.self.now.blocks in
    let closed = c.args.change.now.closed.items in
    let opened = c.args.change.now.opened.items in
    let value = c.args.value.now.value in
    let keys = c.args.value.now.keys in
    let numbers = c.args.numbers.now in
    let taken : TakesMatch g.R.Resolvable.meets opened value c.take_match.new.self.items c.in-Some.other = rw c.in-Some.is at c.in_ok-other.ensures.taken in
    fits-fresh blocks closed opened c.requires.fits c.in-Some.other c.take_match.new.self.items taken.taken

pub returns-in-Some-clause-stands : goal.returns-in-Some-clause-stands
returns-in-Some-clause-stands g c =
    let blocks = c.args.self.now.blocks in
    let closed = c.args.change.now.closed.items in
    let opened = c.args.change.now.opened.items in
    let value = c.args.value.now.value in
    let keys = c.args.value.now.keys in
    let numbers = c.args.numbers.now in
    let taken : TakesMatch g.R.Resolvable.meets opened value c.take_match.new.self.items c.in-Some.other = rw c.in-Some.is at c.in_ok-other.ensures.taken in
    let based = rw c.in-Some.is at c.in_ok-other.ensures.based in
    can-merged_fresh g.R.Resolvable.meets blocks closed opened c.requires.fits c.args.value.now.base c.requires.stands g.met.R.Resolvable.match_laws c.in-Some.other c.take_match.new.self.items taken.taken based.absorbs
    c.in_ok-merged-in-Some.merged.base c.in_ok-merged-in-Some.ensures.base

pub returns-clause-none : goal.returns-clause-none
returns-clause-none g c =
    let blocks = c.args.self.now.blocks in
    let closed = c.args.change.now.closed.items in
    let opened = c.args.change.now.opened.items in
    let value = c.args.value.now.value in
    let keys = c.args.value.now.keys in
    let numbers = c.args.numbers.now in
    let sought : AreSought g.R.Resolvable.meets g.R.Resolvable.is_posted g.R.Resolvable.seeks c.args.value.now.value c.args.value.now.base c.args.value.now.keys =
    subst (λ (e : Entry g.row.R.Denot g.row.R-Key.Denot). AreSought g.R.Resolvable.meets g.R.Resolvable.is_posted g.R.Resolvable.seeks e.value e.base e.keys) c.value.view_is c.value.invariant.0 in
    let shut : (n : ℕ) → Contains c.as_slice-2.result.now n ↔ (Contains numbers n × Contains closed n) = rw (c.as_slice.ensures.value, ← c.as_slice-2.ensures.value) at c.in_ok-shut.ensures in
    let none = rw c.in-None.is at c.in_ok-other.ensures.none in (
      refl,
      none.0,
      All-opened g.R.Resolvable.meets g.R.Resolvable.is_posted g.R.Resolvable.seeks value c.args.value.now.base keys sought blocks closed numbers c.as_slice-2.result.now c.requires.look shut opened c.requires.fits.based
          (λ b is. (All-of_view blocks closed opened (λ w. g.R.Resolvable.meets b.value w ≡ false) (c.requires.stands.beside b is)).1) none.1,
    )
