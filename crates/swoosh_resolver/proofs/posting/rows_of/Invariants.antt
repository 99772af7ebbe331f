-- the keys so far stand at the places so far
use Rattle.std.proofs.Common.{◌≡◌, Some, map}
use Rattle.feature_index.specs.Postings.{KeepsRows, key_at, posting_of}
use Rattle.swoosh_resolver.proofs.posting.rows_of.Given as goal

abbrev pub invariant-loop-key : goal.invariant-loop-key
invariant-loop-key g l = record {
  places : map (key_at l.postings) l.places.items ≡ map Some l.yielded;
  postings : (k : g.row.R-Key.Denot) → posting_of g.R.Key.PartialEq.eq l.postings k ≡ posting_of g.R.Key.PartialEq.eq l.initial.postings k;
  rows : KeepsRows l.initial.postings l.postings;
}
