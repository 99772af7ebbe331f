use Rattle.std.proofs.Common.{take, map}
use Rattle.edition_blocks.specs.Deltas.{AreOnlyIn}
use Rattle.edition_blocks.proofs.telling.only_in.Given as goal

-- of the editions so far those are found that are not among the others
abbrev pub invariant-loop-edition : goal.invariant-loop-edition
invariant-loop-edition l = AreOnlyIn (map (λ e. e.now) (take l.edition-index l.editions)) (map (λ e. e.now) l.others) l.found.items
