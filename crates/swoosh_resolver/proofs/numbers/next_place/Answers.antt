use Rattle.std.proofs.Common.{◌≡◌, ℕ, Option, None, Some, sym, ◌∙◌, ap}
use Rattle.swoosh_resolver.specs.Tables.{Base, Entry}
use Rattle.swoosh_resolver.proofs.numbers.next_place.Goals as goal

pub returns-in-Some-clause-free : goal.returns-in-Some-clause-free
returns-in-Some-clause-free g c none =
    let base : c.args.fresh.now.base ≡ Some c.in-Some.field-0 = sym (ap (λ (e : Entry g.row.R.Denot ℕ). e.base) c.fresh.view_is) ∙ c.in-Some.is in
    absurd (let both : ◌≡◌ {A = Option (Base g.row.R.Denot)} (Some c.in-Some.field-0) None = sym base ∙ none in cc)

pub returns-in-None-clause-stands : goal.returns-in-None-clause-stands
returns-in-None-clause-stands g c b is =
    let base : c.args.fresh.now.base ≡ None = sym (ap (λ (e : Entry g.row.R.Denot ℕ). e.base) c.fresh.view_is) ∙ c.in-None.is in
    absurd (let both : ◌≡◌ {A = Option (Base g.row.R.Denot)} None (Some b) = sym base ∙ is in cc)
