-- the blocks under the numbers so far are closed
use Rattle.std.proofs.Common.{◌≡◌, take}
use Rattle.std.specs.Prelude.{vec_capacity}
use Rattle.feature_index.specs.Postings.{KeepsRows, spare_of}
use Rattle.swoosh_resolver.specs.Tables.{ArePlaced, ArePosted, Has, blocks_in}
use Rattle.swoosh_resolver.specs.Changes.{without}
use Rattle.swoosh_resolver.proofs.install.close_all.Given as goal

abbrev pub invariant-loop-number : goal.invariant-loop-number
invariant-loop-number g l = record {
  blocks : l.blocks.items ≡ without l.initial.blocks.items (take l.number-index l.closed);
  posted : ArePosted g.R.Key.PartialEq.eq (Has g.R.Resolvable.is_posted) l.blocks.items l.postings;
  placed : ArePlaced (Has g.R.Resolvable.is_posted) l.postings (blocks_in l.blocks.items);
  rows : KeepsRows l.initial.postings l.postings;
  spares : (k : g.row.R-Key.Denot) → spare_of g.R.Key.PartialEq.eq l.postings k ≡ spare_of g.R.Key.PartialEq.eq l.initial.postings k;
  capacity : vec_capacity l.blocks ≡ vec_capacity l.initial.blocks;
}
