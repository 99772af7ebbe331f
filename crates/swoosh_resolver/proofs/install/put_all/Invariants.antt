-- the values so far are put under their numbers
use Rattle.std.proofs.Common.{◌≡◌, ◌≤◌, ◌+◌, ◌++◌, length, take}
use Rattle.std.specs.Prelude.{count_by, vec_capacity}
use Rattle.feature_index.specs.Postings.{KeepsRows, spare_of}
use Rattle.swoosh_resolver.specs.Tables.{ArePosted, Has}
use Rattle.swoosh_resolver.specs.Changes.{AreOpened, added, keys_in}
use Rattle.swoosh_resolver.proofs.install.put_all.Given as goal

abbrev pub invariant-loop-placed : goal.invariant-loop-placed
invariant-loop-placed g l = record {
  place : l.place ≡ length l.yielded;
  rest : l.yielded ++ l.placed-iterator.rest.items ≡ l.fn.opened.items;
  opened : AreOpened l.fn.blocks.items (take (length l.yielded) l.numbers) l.yielded l.blocks.items;
  posted : ArePosted g.R.Key.PartialEq.eq (Has g.R.Resolvable.is_posted) l.blocks.items l.postings;
  spares : (k : g.row.R-Key.Denot) → spare_of g.R.Key.PartialEq.eq l.fn.postings k
      ≤ spare_of g.R.Key.PartialEq.eq l.postings k + count_by (g.R.Key.PartialEq.eq k) (keys_in l.fn.postings (take (length l.yielded) (added l.fn.blocks.items l.fn.opened.items l.numbers)));
  rows : KeepsRows l.fn.postings l.postings;
  capacity : vec_capacity l.fn.blocks ≤ vec_capacity l.blocks;
}
