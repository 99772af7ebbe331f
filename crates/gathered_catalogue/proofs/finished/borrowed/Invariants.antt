use Rattle.std.proofs.Common.{◌≡◌, map, take}
use Rattle.gathered_catalogue.proofs.finished.borrowed.Given as goal

-- a reference to each edition so far
abbrev pub invariant-loop-edition : goal.invariant-loop-edition
invariant-loop-edition l = map (λ e. e.now) l.found.items ≡ take l.edition-index l.editions
