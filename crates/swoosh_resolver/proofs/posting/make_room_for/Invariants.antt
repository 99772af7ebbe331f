-- there is room under the keys at the places so far
use Rattle.std.proofs.Common.{◌≡◌, ◌+◌, ◌≤◌, take}
use Rattle.std.specs.Prelude.{count_by}
use Rattle.feature_index.specs.Postings.{KeepsRows, numbers_of, spare_of}
use Rattle.swoosh_resolver.specs.Tables.{keys_at}
use Rattle.swoosh_resolver.proofs.posting.make_room_for.Given as goal

abbrev pub invariant-loop-place : goal.invariant-loop-place
invariant-loop-place g l = record {
  numbers : (k : g.row.R-Key.Denot) → numbers_of g.R.Key.PartialEq.eq l.postings k ≡ numbers_of g.R.Key.PartialEq.eq l.initial.postings k;
  room : (k : g.row.R-Key.Denot) → spare_of g.R.Key.PartialEq.eq l.initial.postings k + count_by (g.R.Key.PartialEq.eq k) (keys_at l.initial.postings (take l.place-index l.places)) ≤ spare_of g.R.Key.PartialEq.eq l.postings k;
  rows : KeepsRows l.initial.postings l.postings;
}
