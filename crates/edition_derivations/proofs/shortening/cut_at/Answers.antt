use Rattle.std.proofs.Common.{sym, subst, ◌<◌, length}
use Rattle.edition_derivations.specs.Steps.{merged, holds}
use Rattle.std.proofs.Common.{IsTrue}
use Rattle.edition_derivations.proofs.ShortLaws.{cut-brings}
use Rattle.edition_derivations.proofs.shortening.cut_at.Goals as goal

pub returns-in_ok-edition-in-Some : goal.returns-in_ok-edition-in-Some
returns-in_ok-edition-in-Some c =
    let steps = c.args.steps.items in
    let at = c.in-Some.at in
    let s = c.index.result.now in
    let within : at < length steps = rw c.as_slice.ensures.value at c.in-Some.ensures.within in
    let has_one = rw c.as_slice.ensures.value at (c.in-Some.ensures.one s) in
    let has_other = rw c.as_slice.ensures.value at (c.in-Some.ensures.other s) in
    λ records all.
    cut-brings records c.args.one.now c.args.other.now steps c.truncate.new.self.items at s c.in_ok-edition-in-Some.edition within
    (sym c.index.ensures) c.truncate.ensures.items c.in_ok-edition-in-Some.ensures
    (subst (λ x. IsTrue (holds (merged x) c.args.one.now)) (sym c.index.ensures) has_one)
    (subst (λ x. IsTrue (holds (merged x) c.args.other.now)) (sym c.index.ensures) has_other)
    all
