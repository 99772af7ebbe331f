-- the values so far are noted
use Rattle.std.proofs.Common.{◌≡◌, length, map}
use Rattle.key_groups.specs.Notes.{hash_by, HasHash, AreNoted}
use Rattle.key_groups.proofs.notes.notes_of.Given as goal

abbrev pub invariant-loop-place : goal.invariant-loop-place
invariant-loop-place g l = record {
  count : length l.parts.items ≡ l.count;
  noted : AreNoted (HasHash g.R.Resolvable.has_key (hash_by g.R.Key.Hash.hash_input l.hashing)) l.list l.first l.place (map (λ part. part.items) l.parts.items);
}
