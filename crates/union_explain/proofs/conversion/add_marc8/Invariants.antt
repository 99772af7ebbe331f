use Rattle.std.proofs.Common.{◌≡◌, ◌++◌, take}
use Rattle.std.specs.Prelude.{filter}
use Rattle.union_explain.specs.Conversions.{is_marc8}
use Rattle.union_explain.proofs.conversion.add_marc8.Given as goal

-- those of the refusals so far are added
abbrev pub invariant-loop-told : goal.invariant-loop-told
invariant-loop-told l = l.found.items ≡ l.initial.found.items ++ filter is_marc8 (take l.told-index l.refused)
