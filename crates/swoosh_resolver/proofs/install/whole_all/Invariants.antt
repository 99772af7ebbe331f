-- the values so far are whole
use Rattle.std.proofs.Common.{◌≡◌, map}
use Rattle.swoosh_resolver.specs.Changes.{whole_at}
use Rattle.swoosh_resolver.proofs.install.whole_all.Given as goal

abbrev pub invariant-loop-fresh : goal.invariant-loop-fresh
invariant-loop-fresh g l = l.whole.items ≡ map (whole_at l.blocks) l.yielded
