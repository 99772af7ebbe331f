use Rattle.std.proofs.Common.{◌≡◌, ℕ, ◌-◌, Option, None, Some, length, get_or, sym, ◌∙◌, subst, arith}
use Rattle.std.specs.Prelude.{map, slice_set}
use Rattle.std.proofs.lemmas.List.{get_or-set_other, get_or-set_same, length-map, length-set, get_or_default}
use Rattle.swoosh_resolver.specs.Tables.{Entry, ArePosted, HasOwn, block_at}
use Rattle.swoosh_resolver.proofs.Opening.{put_block, posted-block, posted-closed, posted-moved, unposted-free}
use Rattle.swoosh_resolver.proofs.Listing.{listed-at, swapped-among, unlisted-last, unlisted-moved}
use Rattle.swoosh_resolver.proofs.Placing.{placed-stays}
use Rattle.swoosh_resolver.proofs.opened.unlist.Goals as goal

pub unpost_fresh-requires-clause-placed : goal.unpost_fresh-requires-clause-placed
unpost_fresh-requires-clause-placed g c = c.requires.listed.placed c.index-values-place.result (c.args.place, c.requires.within, sym c.index-values-place.is)

pub unpost_fresh-requires-clause-present : goal.unpost_fresh-requires-clause-present
unpost_fresh-requires-clause-present g c =
    let xs = c.args.values.now in
    let i = c.args.place in
    let x = c.index-values-place.result in
    let is = c.index-values-place.is in
    let at : block_at (map Some xs) i ≡ Some x = listed-at xs i x c.requires.within is in
    posted-block (map Some xs) c.args.postings.now c.requires.listed.listed c.args.postings.now i x at

pub returns-else-place-last : goal.returns-else-place-last
returns-else-place-last g c d =
    let xs = c.args.values.now in
    let i = c.args.place in
    let x = c.index-values-place.result in
    let at : block_at (map Some xs) i ≡ Some x = listed-at xs i x c.requires.within c.index-values-place.is in
    let m = length xs - 1 in
    record {
      listed = unlisted-last xs i d m (omega arith) c.unpost_fresh.new.postings (omega arith)
          (posted-closed (map Some xs) c.args.postings.now c.requires.listed.listed c.unpost_fresh.new.postings i x at c.unpost_fresh.ensures.numbers);
      based = λ e there. c.requires.listed.based e (swapped-among xs i d e c.requires.within there);
      placed = λ e there. placed-stays c.args.postings.now c.unpost_fresh.new.postings c.unpost_fresh.ensures.rows e.keys (c.requires.listed.placed e (swapped-among xs i d e c.requires.within there));
    }

pub repost_fresh-requires-clause-placed : goal.repost_fresh-requires-clause-placed
repost_fresh-requires-clause-placed g c =
    let z = c.index-values-last.result in
    placed-stays c.args.postings.now c.unpost_fresh.new.postings c.unpost_fresh.ensures.rows z.keys (c.requires.listed.placed z (length c.args.values.now - 1, omega arith, sym c.index-values-last.is))

pub repost_fresh-requires-clause-present : goal.repost_fresh-requires-clause-present
repost_fresh-requires-clause-present g c =
    let xs = c.args.values.now in
    let i = c.args.place in
    let m = length xs - 1 in
    let x = c.index-values-place.result in
    let z = c.index-values-last.result in
    let at : block_at (map Some xs) i ≡ Some x = listed-at xs i x c.requires.within c.index-values-place.is in
    let one = posted-closed (map Some xs) c.args.postings.now c.requires.listed.listed c.unpost_fresh.new.postings i x at c.unpost_fresh.ensures.numbers in
    let at' : block_at (slice_set (map Some xs) i None) m ≡ Some z = get_or-set_other (map Some xs) i m None None (λ e. omega arith) ∙ listed-at xs m z (omega arith) c.index-values-last.is in
    posted-block (slice_set (map Some xs) i None) c.unpost_fresh.new.postings one c.unpost_fresh.new.postings m z at'

pub repost_fresh-requires-clause-absent : goal.repost_fresh-requires-clause-absent
repost_fresh-requires-clause-absent g c k has =
    let xs = c.args.values.now in
    let i = c.args.place in
    let x = c.index-values-place.result in
    let mapped : length (map {B = Option (Entry g.row.R.Denot ℕ)} Some xs) ≡ length xs = length-map xs Some in
    let at : block_at (map Some xs) i ≡ Some x = listed-at xs i x c.requires.within c.index-values-place.is in
    let one = posted-closed (map Some xs) c.args.postings.now c.requires.listed.listed c.unpost_fresh.new.postings i x at c.unpost_fresh.ensures.numbers in
    unposted-free (slice_set (map Some xs) i None) c.unpost_fresh.new.postings one c.unpost_fresh.new.postings i (get_or-set_same (map Some xs) i None None (omega arith)) k

pub returns-then-place-last : goal.returns-then-place-last
returns-then-place-last g c d =
    let xs = c.args.values.now in
    let i = c.args.place in
    let m = length xs - 1 in
    let x = c.index-values-place.result in
    let z = c.index-values-last.result in
    let mapped : length (map {B = Option (Entry g.row.R.Denot ℕ)} Some xs) ≡ length xs = length-map xs Some in
    let at : block_at (map Some xs) i ≡ Some x = listed-at xs i x c.requires.within c.index-values-place.is in
    let one = posted-closed (map Some xs) c.args.postings.now c.requires.listed.listed c.unpost_fresh.new.postings i x at c.unpost_fresh.ensures.numbers in
    let left = slice_set (map Some xs) i None in
    let len : length left ≡ length (map {B = Option (Entry g.row.R.Denot ℕ)} Some xs) = length-set (map {B = Option (Entry g.row.R.Denot ℕ)} Some xs) i None in
    let at' : block_at left m ≡ Some z = get_or-set_other (map Some xs) i m None None (λ e. omega arith) ∙ listed-at xs m z (omega arith) c.index-values-last.is in
    let is : z ≡ get_or xs m d = c.index-values-last.is ∙ get_or_default xs m z d (omega arith) in
    let moved = posted-moved left c.unpost_fresh.new.postings one c.repost_fresh.new.postings m z i at' (get_or-set_same (map Some xs) i None None (omega arith)) (omega arith) c.repost_fresh.ensures.numbers in
    record {
      listed = unlisted-moved xs i d m (omega arith) c.repost_fresh.new.postings (omega arith) (subst (λ z. ArePosted g.R.Key.PartialEq.eq (HasOwn g.R.Resolvable.is_posted) (put_block (slice_set left m None) i z) c.repost_fresh.new.postings) is moved);
      based = λ e there. c.requires.listed.based e (swapped-among xs i d e c.requires.within there);
      placed = λ e there.
          placed-stays c.unpost_fresh.new.postings c.repost_fresh.new.postings c.repost_fresh.ensures.rows e.keys
          (placed-stays c.args.postings.now c.unpost_fresh.new.postings c.unpost_fresh.ensures.rows e.keys (c.requires.listed.placed e (swapped-among xs i d e c.requires.within there)));
    }
