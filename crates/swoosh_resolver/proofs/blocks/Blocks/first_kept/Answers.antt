use Rattle.std.proofs.Common.{◌≡◌, ℕ, ◌+◌, Some, true, subst, arith}
use Rattle.swoosh_resolver.specs.Tables.{AreSought, Entry, Has, block_at}
use Rattle.swoosh_resolver.specs.Looks.{IsUnder}
use Rattle.swoosh_resolver.proofs.Looking.{paid-next, paid-all, none-next, none-matches}
use Rattle.swoosh_resolver.proofs.Whole.{All-kept}
use Rattle.swoosh_resolver.proofs.blocks.Blocks.first_kept.Goals as goal

pub returns-in-Some-clause-cost : goal.returns-in-Some-clause-cost
returns-in-Some-clause-cost g c =
    let blocks = c.args.self.now.blocks in
    let closed = c.args.closed.now in
    let value = c.args.value.now.value in
    let keys = c.args.value.now.keys in
    let numbers = c.args.numbers.now in
    let sought : AreSought g.R.Resolvable.meets g.R.Resolvable.is_posted g.R.Resolvable.seeks c.args.value.now.value c.args.value.now.base c.args.value.now.keys =
    subst (λ (e : Entry g.row.R.Denot g.row.R-Key.Denot). AreSought g.R.Resolvable.meets g.R.Resolvable.is_posted g.R.Resolvable.seeks e.value e.base e.keys) c.value.view_is c.value.invariant.0 in
    let found : (e : Entry g.row.R.Denot ℕ) (n : ℕ) → block_at blocks n ≡ Some e → IsUnder (Has g.R.Resolvable.is_posted) keys e → g.R.Resolvable.is_found e.value value ≡ true =
    λ e n at (k, ck, has). (g.met.R.Resolvable.finding_laws.found e.value value).1 (k, (sought.sound k ck), has) in
    let near = λ (e : Entry g.row.R.Denot ℕ). g.R.Resolvable.is_found e.value value in
    let i = c.loop-number.number-index in
    paid-all blocks closed numbers c.requires.look near found c.args.steps.now c.kept_match.new.steps (i + 1)
    (paid-next blocks closed numbers c.requires.look near found c.args.steps.now c.loop-number.steps c.kept_match.new.steps i (omega arith) c.loop-number.invariant.cost c.kept_match.ensures.cost)

pub loop-number-preserved : goal.loop-number-preserved
loop-number-preserved g c =
    let blocks = c.args.self.now.blocks in
    let closed = c.args.closed.now in
    let value = c.args.value.now.value in
    let keys = c.args.value.now.keys in
    let numbers = c.args.numbers.now in
    let sought : AreSought g.R.Resolvable.meets g.R.Resolvable.is_posted g.R.Resolvable.seeks c.args.value.now.value c.args.value.now.base c.args.value.now.keys =
    subst (λ (e : Entry g.row.R.Denot g.row.R-Key.Denot). AreSought g.R.Resolvable.meets g.R.Resolvable.is_posted g.R.Resolvable.seeks e.value e.base e.keys) c.value.view_is c.value.invariant.0 in
    let found : (e : Entry g.row.R.Denot ℕ) (n : ℕ) → block_at blocks n ≡ Some e → IsUnder (Has g.R.Resolvable.is_posted) keys e → g.R.Resolvable.is_found e.value value ≡ true =
    λ e n at (k, ck, has). (g.met.R.Resolvable.finding_laws.found e.value value).1 (k, (sought.sound k ck), has) in
    let near = λ (e : Entry g.row.R.Denot ℕ). g.R.Resolvable.is_found e.value value in
    let i = c.loop-number.number-index in
    record {
      none = none-next blocks closed numbers c.requires.look (λ (e : Entry g.row.R.Denot ℕ). g.R.Resolvable.meets value e.value) i (omega arith) c.loop-number.invariant.none c.in_default.ensures.none;
      cost = paid-next blocks closed numbers c.requires.look near found c.args.steps.now c.loop-number.steps c.kept_match.new.steps i (omega arith) c.loop-number.invariant.cost c.kept_match.ensures.cost;
    }

pub returns-clause-none : goal.returns-clause-none
returns-clause-none g c =
    let blocks = c.args.self.now.blocks in
    let closed = c.args.closed.now in
    let value = c.args.value.now.value in
    let keys = c.args.value.now.keys in
    let numbers = c.args.numbers.now in
    let sought : AreSought g.R.Resolvable.meets g.R.Resolvable.is_posted g.R.Resolvable.seeks c.args.value.now.value c.args.value.now.base c.args.value.now.keys =
    subst (λ (e : Entry g.row.R.Denot g.row.R-Key.Denot). AreSought g.R.Resolvable.meets g.R.Resolvable.is_posted g.R.Resolvable.seeks e.value e.base e.keys) c.value.view_is c.value.invariant.0 in
    let found : (e : Entry g.row.R.Denot ℕ) (n : ℕ) → block_at blocks n ≡ Some e → IsUnder (Has g.R.Resolvable.is_posted) keys e → g.R.Resolvable.is_found e.value value ≡ true =
    λ e n at (k, ck, has). (g.met.R.Resolvable.finding_laws.found e.value value).1 (k, (sought.sound k ck), has) in
    let near = λ (e : Entry g.row.R.Denot ℕ). g.R.Resolvable.is_found e.value value in
    let i = c.loop-number.number-index in
    All-kept g.R.Resolvable.meets g.R.Resolvable.is_posted g.R.Resolvable.seeks value c.args.value.now.base keys sought blocks closed c.requires.beside
    (none-matches blocks closed numbers c.requires.look (λ (e : Entry g.row.R.Denot ℕ). g.R.Resolvable.meets value e.value) i (omega arith) c.loop-number.invariant.none)

pub returns-clause-cost : goal.returns-clause-cost
returns-clause-cost g c =
    let blocks = c.args.self.now.blocks in
    let closed = c.args.closed.now in
    let value = c.args.value.now.value in
    let keys = c.args.value.now.keys in
    let numbers = c.args.numbers.now in
    let sought : AreSought g.R.Resolvable.meets g.R.Resolvable.is_posted g.R.Resolvable.seeks c.args.value.now.value c.args.value.now.base c.args.value.now.keys =
    subst (λ (e : Entry g.row.R.Denot g.row.R-Key.Denot). AreSought g.R.Resolvable.meets g.R.Resolvable.is_posted g.R.Resolvable.seeks e.value e.base e.keys) c.value.view_is c.value.invariant.0 in
    let found : (e : Entry g.row.R.Denot ℕ) (n : ℕ) → block_at blocks n ≡ Some e → IsUnder (Has g.R.Resolvable.is_posted) keys e → g.R.Resolvable.is_found e.value value ≡ true =
    λ e n at (k, ck, has). (g.met.R.Resolvable.finding_laws.found e.value value).1 (k, (sought.sound k ck), has) in
    let near = λ (e : Entry g.row.R.Denot ℕ). g.R.Resolvable.is_found e.value value in
    let i = c.loop-number.number-index in
    paid-all blocks closed numbers c.requires.look near found c.args.steps.now c.loop-number.steps i c.loop-number.invariant.cost
