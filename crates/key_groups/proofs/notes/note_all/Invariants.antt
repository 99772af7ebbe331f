-- the keys so far are noted
use Rattle.std.proofs.Common.{◌≡◌, ◌++◌, map}
use Rattle.key_groups.specs.Notes.{hash_by, HashIsAmong, GetNotes}
use Rattle.key_groups.proofs.notes.note_all.Given as goal

abbrev pub invariant-loop-key : goal.invariant-loop-key
invariant-loop-key g l = record {
  all : l.fn.keys.items ≡ l.yielded ++ l.key-iterator.rest.items;
  noted : GetNotes (map (λ part. part.items) l.initial.parts) (map (λ part. part.items) l.parts) (HashIsAmong (hash_by g.K.Hash.hash_input l.hashing) l.yielded) l.place;
}
