use Rattle.std.proofs.Common.{◌≡◌, false, None, sym, ◌∙◌, ap, arith}
use Rattle.std.specs.Prelude.{option_copied}
use Rattle.swoosh_resolver.specs.Tables.{block_at}
use Rattle.swoosh_resolver.specs.Changes.{without}
use Rattle.swoosh_resolver.specs.Insertions.{passes}
use Rattle.swoosh_resolver.proofs.Places.{block-from_value, none-from_value, IfNone-always}
use Rattle.swoosh_resolver.proofs.blocks.Blocks.kept_match.Goals as goal

pub returns-in_err-block-clause-none : goal.returns-in_err-block-clause-none
returns-in_err-block-clause-none g c =
    let here = block_at (without c.args.self.now.blocks c.args.closed.now) c.args.number in
    let was : c.open_block.result ≡ None = c.in_err-block.was in
    let none : here ≡ None = none-from_value here (sym (ap option_copied was) ∙ c.open_block.ensures) in
    IfNone-always c.from_residual.result (passes (λ e. g.R.Resolvable.meets c.args.value.now.value e.value) here ≡ false)
    (ap (passes (λ e. g.R.Resolvable.meets c.args.value.now.value e.value)) none)

pub returns-then-matches-clause-some : goal.returns-then-matches-clause-some
returns-then-matches-clause-some g c =
    let (e, stands, is) = block-from_value (block_at (without c.args.self.now.blocks c.args.closed.now) c.args.number) c.in_ok-block.block.now (sym (ap option_copied c.in_ok-block.was) ∙ c.open_block.ensures) in
    record {
      by = e;
      stands = stands;
      is = is;
      matches = rw (← c.value.view_is) (sym c.matches.ensures.answer ∙ c.if-matches.true);
    }

pub returns-then-matches-clause-cost : goal.returns-then-matches-clause-cost
returns-then-matches-clause-cost g c =
    let (e, stands, is) = block-from_value (block_at (without c.args.self.now.blocks c.args.closed.now) c.args.number) c.in_ok-block.block.now (sym (ap option_copied c.in_ok-block.was) ∙ c.open_block.ensures) in
    let counted = c.matches.ensures.counted in
    rw stands (omega arith)

pub returns-else-matches-clause-cost : goal.returns-else-matches-clause-cost
returns-else-matches-clause-cost g c =
    let (e, stands, is) = block-from_value (block_at (without c.args.self.now.blocks c.args.closed.now) c.args.number) c.in_ok-block.block.now (sym (ap option_copied c.in_ok-block.was) ∙ c.open_block.ensures) in
    let counted = c.matches.ensures.counted in
    rw stands (omega arith)

pub returns-else-matches-clause-none : goal.returns-else-matches-clause-none
returns-else-matches-clause-none g c =
    let (e, stands, is) = block-from_value (block_at (without c.args.self.now.blocks c.args.closed.now) c.args.number) c.in_ok-block.block.now (sym (ap option_copied c.in_ok-block.was) ∙ c.open_block.ensures) in
    let no : g.R.Resolvable.meets c.args.value.now.value c.in_ok-block.block.now ≡ false = rw (← c.value.view_is) (sym c.matches.ensures.answer ∙ c.if-matches.false) in
    ap (passes (λ e. g.R.Resolvable.meets c.args.value.now.value e.value)) stands ∙ ap (g.R.Resolvable.meets c.args.value.now.value) (sym is) ∙ no
