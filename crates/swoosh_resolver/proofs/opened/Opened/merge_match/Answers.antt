use Rattle.std.proofs.Common.{ℕ, [], ◌∙◌, ap, subst, arith}
use Rattle.swoosh_resolver.specs.Tables.{AreSought, Entry}
use Rattle.swoosh_resolver.proofs.Whole.{All-free}
use Rattle.swoosh_resolver.proofs.opened.Opened.merge_match.Goals as goal

pub take_match-requires : goal.take_match-requires
take_match-requires g c = record { led = λ e b there is (i, il, at). absurd (omega arith) }

pub returns-in_ok-joined-in-Some-clause-merged : goal.returns-in_ok-joined-in-Some-clause-merged
returns-in_ok-joined-in-Some-clause-merged g c =
    let other = c.in-Some.other in
    let m = rw c.in-Some.is at c.in_ok-other.ensures.taken in
    let value = ap (λ (e : Entry g.row.R.Denot g.row.R-Key.Denot). e.value) c.value.view_is in
    let its = ap (λ (e : Entry g.row.R.Denot ℕ). e.value) c.other.view_is in
    record {
      by = other;
      taken = m.taken;
      matches = m.matches;
      is = c.in_ok-joined-in-Some.ensures ∙ ap (λ v. g.R.Join.join v c.value.inside.value) its ∙ ap (g.R.Join.join other.value) value;
    }

pub returns-in-None-clause-none : goal.returns-in-None-clause-none
returns-in-None-clause-none g c =
    let none = rw c.in-None.is at c.in_ok-other.ensures.none in
    let sought : AreSought g.R.Resolvable.meets g.R.Resolvable.is_posted g.R.Resolvable.seeks c.args.value.now.value c.args.value.now.base c.args.value.now.keys =
    subst (λ (e : Entry g.row.R.Denot g.row.R-Key.Denot). AreSought g.R.Resolvable.meets g.R.Resolvable.is_posted g.R.Resolvable.seeks e.value e.base e.keys) c.value.view_is c.value.invariant.0 in
    (none.0, All-free g.R.Resolvable.meets g.R.Resolvable.is_posted g.R.Resolvable.seeks c.args.value.now.value c.args.value.now.base c.args.value.now.keys sought c.requires.whole [] c.args.self.now.items c.requires.free none.1)
