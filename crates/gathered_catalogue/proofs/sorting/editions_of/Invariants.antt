use Rattle.std.proofs.Common.{◌≡◌, map}
use Rattle.gathered_catalogue.proofs.sorting.editions_of.Given as goal

-- the editions so far stand without their copies
abbrev pub invariant-loop-named : goal.invariant-loop-named
invariant-loop-named l = l.editions.items ≡ map (λ n. n.edition) l.yielded
