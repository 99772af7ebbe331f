use Rattle.std.proofs.Common.{◌≡◌, take, map}
use Rattle.std.specs.Prelude.{filter_map}
use Rattle.std.specs.Option.{option_map}
use Rattle.swoosh_resolver.specs.Tables.{block_at}
use Rattle.edition_blocks.proofs.looking.under_numbers.Given as goal

-- the blocks under the numbers before this place were found
abbrev pub invariant-loop-number : goal.invariant-loop-number
invariant-loop-number l = map (λ e. e.now) l.found.items ≡ filter_map (λ n. option_map (λ e. e.value) (block_at l.blocks.blocks n)) (take l.number-index l.numbers)
