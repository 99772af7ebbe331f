use Rattle.std.proofs.Common.{◌≡◌, take, map}
use Rattle.edition_blocks.proofs.looking.editions_of.Given as goal

-- the editions before this place stand without their copies
abbrev pub invariant-loop-named : goal.invariant-loop-named
invariant-loop-named l = map (λ e. e.now) l.editions.items ≡ map (λ n. n.edition.now) (take l.named-index l.all)
