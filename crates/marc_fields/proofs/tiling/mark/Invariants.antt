use Rattle.std.proofs.Common.{◌≡◌, ℕ, ◌||◌, ◌&&◌, false, get_or}
use Rattle.std.specs.Prelude.{nat_le, nat_lt}
use Rattle.marc_fields.proofs.tiling.mark.Given as goal

-- the bytes so far are marked
abbrev pub invariant-loop-at : goal.invariant-loop-at
invariant-loop-at l = (k : ℕ) → get_or l.marks k false ≡ (get_or l.initial.marks k false || (nat_le l.start k && nat_lt k l.at))
