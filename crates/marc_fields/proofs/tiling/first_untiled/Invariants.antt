use Rattle.std.proofs.Common.{◌≡◌, ◌+◌, [], take, drop}
use Rattle.marc_fields.specs.Rules.{tiling_from}
use Rattle.marc_fields.specs.Tilings.{AreOwners}
use Rattle.marc_fields.proofs.tiling.first_untiled.Given as goal

-- the entries so far have their bytes, and the others decide
abbrev pub invariant-loop-i : goal.invariant-loop-i
invariant-loop-i l = record {
  row : tiling_from l.bytes [] 1 l.entries ≡ tiling_from l.bytes (take l.i l.entries) (l.i + 1) (drop l.i l.entries);
  marked : AreOwners (take l.i l.entries) l.marks;
}
