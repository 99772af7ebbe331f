-- the number was taken from under the keys so far
use Rattle.std.proofs.Common.{take}
use Rattle.feature_index.specs.Postings.{KeepsRows}
use Rattle.swoosh_resolver.specs.Tables.{keys_at}
use Rattle.swoosh_resolver.proofs.Numbering.{IsUnposted}
use Rattle.swoosh_resolver.proofs.posting.unpost.Given as goal

abbrev pub invariant-loop-place : goal.invariant-loop-place
invariant-loop-place g l = record {
  done : IsUnposted g.R.Key.PartialEq.eq l.initial.postings (keys_at l.initial.postings (take l.place-index l.places)) l.number l.postings;
  rows : KeepsRows l.initial.postings l.postings;
}
