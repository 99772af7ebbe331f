use Rattle.std.proofs.Common.{◌≡◌, ◌+◌, length, drop}
use Rattle.marc_fields.specs.Tilings.{end_in_order}
use Rattle.marc_fields.proofs.tiling.end_in_order.Given as goal

-- the rest of the data and the other entries decide
abbrev pub invariant-loop-entry : goal.invariant-loop-entry
invariant-loop-entry l = record {
  here : l.start + length l.rest ≡ length l.bytes;
  order : end_in_order 0 l.bytes l.entries ≡ end_in_order l.start l.rest (drop l.entry-index l.entries);
}
