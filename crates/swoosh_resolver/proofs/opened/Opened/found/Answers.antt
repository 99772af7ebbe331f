use Rattle.std.proofs.Common.{ℕ, Some, ap, subst}
use Rattle.std.specs.Prelude.{Contains, map}
use Rattle.swoosh_resolver.specs.Tables.{ArePosted, Entry, HasOwn, IsOnBase, Listed}
use Rattle.swoosh_resolver.proofs.Finding.{IfOk-always, look-told}
use Rattle.swoosh_resolver.proofs.opened.Opened.found.Goals as goal

pub returns-clause-look : goal.returns-clause-look
returns-clause-look g c =
    let items = c.args.self.now.items in
    let posted : ArePosted g.R.Key.PartialEq.eq (HasOwn g.R.Resolvable.is_posted) (map Some items) c.self.inside.postings =
    subst (λ xs. ArePosted g.R.Key.PartialEq.eq (HasOwn g.R.Resolvable.is_posted) (map Some xs) c.self.inside.postings) (ap (λ (l : Listed g.row.R.Denot ℕ). l.items) c.self.view_is) c.self.invariant.listed in
    look-told c.candidates.result g.R.Resolvable.is_posted items c.self.inside.postings c.args.keys.now c.args.numbers.now c.in_ok-standing.standing.items posted c.in_ok-standing.ensures c.candidates.ensures.ascending c.candidates.ensures.members

pub returns-clause-based : goal.returns-clause-based
returns-clause-based g c =
    IfOk-always c.candidates.result _
    (subst (λ xs. (e : Entry g.row.R.Denot ℕ) → Contains xs e → IsOnBase g.R.Resolvable.is_posted g.R.Join.join e.value e.base) (ap (λ (l : Listed g.row.R.Denot ℕ). l.items) c.self.view_is) c.self.invariant.based)
