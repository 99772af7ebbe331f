use Rattle.std.proofs.Common.{◌≡◌, ℕ, ◌<◌, length, get_or, sym, ap, subst}
use Rattle.std.specs.Prelude.{swap_remove}
use Rattle.swoosh_resolver.specs.Tables.{Listed}
use Rattle.swoosh_resolver.proofs.opened.Opened.swap_remove.Goals as goal

pub returns-clause-based : goal.returns-clause-based
returns-clause-based g c =
    let xs = c.self.inside.values.items in
    let i = c.args.place in
    let x = c.swap_remove.result in
    let mine : xs ≡ c.args.self.now.items = ap (λ (l : Listed g.row.R.Denot ℕ). l.items) c.self.view_is in
    let within : i < length xs = subst (λ ys. i < length ys) (sym mine) c.requires in
    c.self.invariant.based x (i, within, sym c.swap_remove.ensures.value)

pub returns-clause-value : goal.returns-clause-value
returns-clause-value g c =
    let mine : c.self.inside.values.items ≡ c.args.self.now.items = ap (λ (l : Listed g.row.R.Denot ℕ). l.items) c.self.view_is in
    subst (λ xs. c.swap_remove.result ≡ get_or xs c.args.place c.swap_remove.result) mine c.swap_remove.ensures.value

pub returns-clause-items : goal.returns-clause-items
returns-clause-items g c =
    let mine : c.self.inside.values.items ≡ c.args.self.now.items = ap (λ (l : Listed g.row.R.Denot ℕ). l.items) c.self.view_is in
    subst (λ xs. c.swap_remove.new.self.items ≡ swap_remove xs c.args.place c.swap_remove.result) mine c.swap_remove.ensures.items

pub invariant_of-self : goal.invariant_of-self
invariant_of-self g c = rw (c.swap_remove.ensures.items, ← c.as_slice.ensures.value) (c.unlist.ensures c.swap_remove.result)
