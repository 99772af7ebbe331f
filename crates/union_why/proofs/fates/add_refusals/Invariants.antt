use Rattle.std.proofs.Common.{◌≡◌, ◌++◌, take}
use Rattle.std.specs.List.{flat_map}
use Rattle.union_why.specs.Fates.{shown_text}
use Rattle.union_why.proofs.fates.add_refusals.Given as goal

abbrev pub invariant-loop-frame : goal.invariant-loop-frame
invariant-loop-frame l = l.text.items ≡ l.initial.text.items ++ flat_map (shown_text l.id) (take l.frame-index l.refused)
