-- the numbers are exchanged under the keys so far
use Rattle.std.proofs.Common.{take}
use Rattle.feature_index.specs.Postings.{KeepsRows}
use Rattle.swoosh_resolver.specs.Tables.{keys_at}
use Rattle.swoosh_resolver.proofs.Numbering.{IsRenumbered}
use Rattle.swoosh_resolver.proofs.posting.repost.Given as goal

abbrev pub invariant-loop-place : goal.invariant-loop-place
invariant-loop-place g l = record {
  done : IsRenumbered g.R.Key.PartialEq.eq l.initial.postings (keys_at l.initial.postings (take l.place-index l.places)) l.from l.to l.postings;
  rows : KeepsRows l.initial.postings l.postings;
}
