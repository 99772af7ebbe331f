use Rattle.std.proofs.Common.{◌≡◌, map}
use Rattle.gathered_catalogue.proofs.sorting.all_named.Given as goal

-- the editions so far have their copies
abbrev pub invariant-loop-edition : goal.invariant-loop-edition
invariant-loop-edition l = map (λ n. n.edition) l.all.items ≡ l.yielded
