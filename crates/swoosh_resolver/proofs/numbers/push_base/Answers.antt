use Rattle.std.proofs.Common.{◌≡◌, ℕ, ◌++◌, ◌∷◌, [], Option, None, Some, sym, ◌∙◌, ap}
use Rattle.swoosh_resolver.specs.Tables.{Base, Entry}
use Rattle.swoosh_resolver.proofs.numbers.push_base.Goals as goal

pub returns-in_ok-push-in-Some-clause-stands : goal.returns-in_ok-push-in-Some-clause-stands
returns-in_ok-push-in-Some-clause-stands g c b is =
    let base : c.args.fresh.now.base ≡ Some c.in-Some.standing = sym (ap (λ (e : Entry g.row.R.Denot ℕ). e.base) c.fresh.view_is) ∙ c.in-Some.is in
    let one : c.in-Some.standing ≡ b = (let both : ◌≡◌ {A = Option (Base g.row.R.Denot)} (Some c.in-Some.standing) (Some b) = sym base ∙ is in cc) in
    c.in_ok-push-in-Some.ensures.items ∙ ap (λ (z : Base g.row.R.Denot). c.args.numbers.now.items ++ z.number ∷ []) (c.standing.view_is ∙ one)

pub returns-in_ok-push-in-Some-clause-free : goal.returns-in_ok-push-in-Some-clause-free
returns-in_ok-push-in-Some-clause-free g c none =
    let base : c.args.fresh.now.base ≡ Some c.in-Some.standing = sym (ap (λ (e : Entry g.row.R.Denot ℕ). e.base) c.fresh.view_is) ∙ c.in-Some.is in
    absurd (let both : ◌≡◌ {A = Option (Base g.row.R.Denot)} (Some c.in-Some.standing) None = sym base ∙ none in cc)

pub returns-in-None-clause-stands : goal.returns-in-None-clause-stands
returns-in-None-clause-stands g c b is =
    let base : c.args.fresh.now.base ≡ None = sym (ap (λ (e : Entry g.row.R.Denot ℕ). e.base) c.fresh.view_is) ∙ c.in-None.is in
    absurd (let both : ◌≡◌ {A = Option (Base g.row.R.Denot)} None (Some b) = sym base ∙ is in cc)
