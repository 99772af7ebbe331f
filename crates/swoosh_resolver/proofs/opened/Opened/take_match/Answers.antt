use Rattle.std.proofs.Common.{ℕ, ◌<◌, IsTrue, get_or, length, sym, subst}
use Rattle.std.proofs.lemmas.List.Sorted.{IsPermutation-swap_remove}
use Rattle.swoosh_resolver.specs.Tables.{Entry}
use Rattle.swoosh_resolver.proofs.opened.Opened.take_match.Goals as goal

pub returns-in-Some-clause-taken : goal.returns-in-Some-clause-taken
returns-in-Some-clause-taken g c =
    let items = c.args.self.now.items in
    let place = c.in-Some.place in
    let other = c.swap_remove.result in
    let within : place < length items = rw c.in-Some.is at c.in_ok-place.ensures.within in
    let found : IsTrue (g.R.Resolvable.meets c.args.value.now.value (get_or items place other).value) = (rw c.in-Some.is at c.in_ok-place.ensures.found) other in
    let is = c.swap_remove.ensures.value in
    record {
      taken = rw c.swap_remove.ensures.items (IsPermutation-swap_remove items place other within is);
      matches = subst (λ (e : Entry g.row.R.Denot ℕ). IsTrue (g.R.Resolvable.meets c.args.value.now.value e.value)) (sym is) found;
    }
