use Rattle.std.proofs.Common.{◌≡◌, ℕ, Option, None, Some, sym, ◌∙◌, ap, subst}
use Rattle.std.specs.Prelude.{Contains}
use Rattle.swoosh_resolver.specs.Tables.{Base, Entry}
use Rattle.swoosh_resolver.proofs.Places.{closed-from_found, open-from_missed}
use Rattle.swoosh_resolver.proofs.opened.stands_on.Goals as goal

pub returns-in-Some-clause-yes : goal.returns-in-Some-clause-yes
returns-in-Some-clause-yes g c h =
    let base : c.args.fresh.now.base ≡ Some c.in-Some.standing = sym (ap (λ (e : Entry g.row.R.Denot ℕ). e.base) c.fresh.view_is) ∙ c.in-Some.is in
    let number = ap (λ (b : Base g.row.R.Denot). b.number) c.standing.view_is in
    (c.in-Some.standing, base, subst (Contains c.args.numbers.now) number (closed-from_found c.args.numbers.now c.standing.inside.number (sym c.contains.ensures.value ∙ h)))

pub returns-in-Some-clause-no : goal.returns-in-Some-clause-no
returns-in-Some-clause-no g c h (b, is, there) =
    let base : c.args.fresh.now.base ≡ Some c.in-Some.standing = sym (ap (λ (e : Entry g.row.R.Denot ℕ). e.base) c.fresh.view_is) ∙ c.in-Some.is in
    let number = ap (λ (b : Base g.row.R.Denot). b.number) c.standing.view_is in
    let one : b ≡ c.in-Some.standing = (let both : ◌≡◌ {A = Option (Base g.row.R.Denot)} (Some b) (Some c.in-Some.standing) = sym is ∙ base in cc) in
    open-from_missed c.args.numbers.now c.standing.inside.number (sym c.contains.ensures.value ∙ h)
    (subst (Contains c.args.numbers.now) (ap (λ (z : Base g.row.R.Denot). z.number) one ∙ sym number) there)

pub returns-in-None-clause-no : goal.returns-in-None-clause-no
returns-in-None-clause-no g c h (b, is, there) =
    let base : c.args.fresh.now.base ≡ None = sym (ap (λ (e : Entry g.row.R.Denot ℕ). e.base) c.fresh.view_is) ∙ c.in-None.is in
    absurd (let both : ◌≡◌ {A = Option (Base g.row.R.Denot)} (Some b) None = sym is ∙ base in cc)
