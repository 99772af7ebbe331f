use Rattle.std.proofs.Common.{ℕ, sym, ◌∙◌, ap}
use Rattle.std.specs.Prelude.{option_map}
use Rattle.swoosh_resolver.specs.Tables.{Entry}
use Rattle.swoosh_resolver.proofs.Places.{block-closed, block-kept, closed-from_found, open-from_missed}
use Rattle.swoosh_resolver.proofs.blocks.Blocks.open_block.Goals as goal

pub returns-then-contains : goal.returns-then-contains
returns-then-contains g c =
    let closed = closed-from_found c.args.closed.now c.args.number (sym c.contains.ensures.value ∙ c.if-contains.true) in
    ap (option_map (λ (e : Entry g.row.R.Denot ℕ). e.value)) (sym (block-closed c.args.closed.now c.args.self.now.blocks c.args.number closed))

pub returns-else-contains : goal.returns-else-contains
returns-else-contains g c =
    let open' = open-from_missed c.args.closed.now c.args.number (sym c.contains.ensures.value ∙ c.if-contains.false) in
    c.block.ensures ∙ ap (option_map (λ (e : Entry g.row.R.Denot ℕ). e.value)) (sym (block-kept c.args.closed.now c.args.self.now.blocks c.args.number open'))
