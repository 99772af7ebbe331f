use Rattle.std.proofs.Common.{◌≡◌, take, map}
use Rattle.swoosh_resolver.specs.Tables.{values_of}
use Rattle.edition_blocks.proofs.telling.opened_editions.Given as goal

-- the values so far were found
abbrev pub invariant-loop-placed : goal.invariant-loop-placed
invariant-loop-placed l = map (λ e. e.now) l.found.items ≡ values_of (take l.placed-index l.opened)
