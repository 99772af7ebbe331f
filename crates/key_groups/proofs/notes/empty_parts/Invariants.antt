-- the parts so far are empty
use Rattle.std.proofs.Common.{◌≡◌, [], length, map, replicate}
use Rattle.key_groups.proofs.notes.empty_parts.Given as goal

abbrev pub invariant-loop : goal.invariant-loop
invariant-loop l = record {
  count : length l.parts.items ≡ l.counter;
  empty : map (λ part. part.items) l.parts.items ≡ replicate l.counter [];
}
