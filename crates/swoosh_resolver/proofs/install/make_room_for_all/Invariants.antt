-- there is room under the keys of the values so far
use Rattle.std.proofs.Common.{◌≡◌, ◌+◌, ◌≤◌, map, take}
use Rattle.std.specs.Prelude.{count_by}
use Rattle.feature_index.specs.Postings.{KeepsRows, numbers_of, spare_of}
use Rattle.swoosh_resolver.specs.Changes.{keys_in}
use Rattle.swoosh_resolver.proofs.install.make_room_for_all.Given as goal

abbrev pub invariant-loop-fresh : goal.invariant-loop-fresh
invariant-loop-fresh g l = record {
  numbers : (k : g.row.R-Key.Denot) → numbers_of g.R.Key.PartialEq.eq l.postings k ≡ numbers_of g.R.Key.PartialEq.eq l.initial.postings k;
  room : (k : g.row.R-Key.Denot) → spare_of g.R.Key.PartialEq.eq l.initial.postings k + count_by (g.R.Key.PartialEq.eq k) (keys_in l.initial.postings (map (λ e. e.keys) (take l.fresh-index l.opened))) ≤ spare_of g.R.Key.PartialEq.eq l.postings k;
  rows : KeepsRows l.initial.postings l.postings;
}
