-- the parts so far have more
use Rattle.std.proofs.Common.{◌≡◌, ◌++◌, length, map}
use Rattle.key_groups.specs.Notes.{AreAdded}
use Rattle.key_groups.proofs.notes.add_parts.Given as goal

abbrev pub invariant-loop-notes : goal.invariant-loop-notes
invariant-loop-notes l = record {
  all : l.fn.more.items ≡ l.yielded ++ l.notes-iterator.rest.items;
  place : l.place ≡ length l.yielded;
  count : length l.parts ≡ length l.initial.parts;
  added : AreAdded (map (λ part. part.items) l.initial.parts) (map (λ part. part.items) l.yielded) (map (λ part. part.items) l.parts);
}
