use Rattle.std.proofs.Common.{◌≡◌, take, map}
use Rattle.edition_blocks.proofs.looking.all_named.Given as goal

-- each edition before this place has its copy
abbrev pub invariant-loop-edition : goal.invariant-loop-edition
invariant-loop-edition l = map (λ n. n.edition.now) l.all.items ≡ map (λ e. e.now) (take l.edition-index l.editions)
