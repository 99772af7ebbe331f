use Rattle.std.proofs.Common.{◌≡◌, ℕ, None, Some, refl, ◌∙◌, ap, subst, arith}
use Rattle.std.specs.Prelude.{map}
use Rattle.swoosh_resolver.specs.Tables.{Entry, Listed, block_at}
use Rattle.swoosh_resolver.proofs.Listing.{listed-at, listed-past}
use Rattle.swoosh_resolver.proofs.opened.Opened.matches_at.Goals as goal

pub returns-in-Some-clause-answer : goal.returns-in-Some-clause-answer
returns-in-Some-clause-answer g c =
    let place = c.args.place in
    let other = c.in-Some.other.now in
    let lookup = c.in-Some.ensures.lookup in
    let mine = c.deref.ensures.value ∙ ap (λ (l : Listed g.row.R.Denot ℕ). l.items) c.self.view_is in
    let is : block_at (map Some c.args.self.now.items) place ≡ Some other =
    subst (λ xs. block_at (map Some xs) place ≡ Some other) mine (listed-at c.deref.result.now place other lookup.3.0 lookup.1) in
    rw is (c.matches.ensures.answer ∙ ap (λ (e : Entry g.row.R.Denot g.row.R-Key.Denot). g.R.Resolvable.meets e.value c.other.inside.value) c.value.view_is
    ∙ ap (λ (e : Entry g.row.R.Denot ℕ). g.R.Resolvable.meets c.args.value.now.value e.value) c.other.view_is)

pub returns-in-Some-clause-cost : goal.returns-in-Some-clause-cost
returns-in-Some-clause-cost g c =
    let place = c.args.place in
    let other = c.in-Some.other.now in
    let lookup = c.in-Some.ensures.lookup in
    let mine = c.deref.ensures.value ∙ ap (λ (l : Listed g.row.R.Denot ℕ). l.items) c.self.view_is in
    let is : block_at (map Some c.args.self.now.items) place ≡ Some other =
    subst (λ xs. block_at (map Some xs) place ≡ Some other) mine (listed-at c.deref.result.now place other lookup.3.0 lookup.1) in
    let counted = c.matches.ensures.counted in
    rw is (omega arith)

pub returns-in-None-clause-answer : goal.returns-in-None-clause-answer
returns-in-None-clause-answer g c =
    let place = c.args.place in
    let mine = c.deref.ensures.value ∙ ap (λ (l : Listed g.row.R.Denot ℕ). l.items) c.self.view_is in
    let none : block_at (map Some c.args.self.now.items) place ≡ None =
    subst (λ xs. block_at (map Some xs) place ≡ None) mine (listed-past c.deref.result.now place c.in-None.ensures.lookup.3) in
    rw none refl

pub returns-in-None-clause-cost : goal.returns-in-None-clause-cost
returns-in-None-clause-cost g c =
    let place = c.args.place in
    let mine = c.deref.ensures.value ∙ ap (λ (l : Listed g.row.R.Denot ℕ). l.items) c.self.view_is in
    let none : block_at (map Some c.args.self.now.items) place ≡ None =
    subst (λ xs. block_at (map Some xs) place ≡ None) mine (listed-past c.deref.result.now place c.in-None.ensures.lookup.3) in
    rw none (omega arith)
