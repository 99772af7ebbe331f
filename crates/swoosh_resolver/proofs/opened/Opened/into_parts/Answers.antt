use Rattle.std.proofs.Common.{ℕ, Contains, subst, sym, ap}
use Rattle.swoosh_resolver.specs.Tables.{Listed}
use Rattle.swoosh_resolver.proofs.opened.Opened.into_parts.Goals as goal

pub returns-clause-placed : goal.returns-clause-placed
returns-clause-placed g c e there = c.self.invariant.placed e (subst (λ items. Contains items e) (sym (ap (λ (l : Listed g.row.R.Denot ℕ). l.items) c.self.view_is)) there)

pub returns-clause-based : goal.returns-clause-based
returns-clause-based g c e there = c.self.invariant.based e (subst (λ items. Contains items e) (sym (ap (λ (l : Listed g.row.R.Denot ℕ). l.items) c.self.view_is)) there)
