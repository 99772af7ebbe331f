use Rattle.std.proofs.Common.{◌≡◌, map, take}
use Rattle.swoosh_resolver.specs.Tables.{blocks_in, values_of}
use Rattle.swoosh_resolver.proofs.blocks.Blocks.values.Given as goal

-- the blocks before this number were found
abbrev pub invariant-loop-block : goal.invariant-loop-block
invariant-loop-block g l = map (λ r. r.now) l.found.items ≡ values_of (blocks_in (take l.block-index l.self.blocks))
