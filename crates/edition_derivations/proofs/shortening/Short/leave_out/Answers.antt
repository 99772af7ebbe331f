use Rattle.std.proofs.Common.{◌≡◌, ◌++◌, take, drop}
use Rattle.edition_derivations.proofs.ShortLaws.{shortened-by}
use Rattle.edition_derivations.proofs.shortening.Short.leave_out.Goals as goal

pub returns-in-Some-clause-kept : goal.returns-in-Some-clause-kept
returns-in-Some-clause-kept c =
    let kept = c.args.self.now.kept.items in
    let told = rw c.in-Some.is at c.in_ok-derivation.ensures in
    let fewer : c.in_ok-fewer.fewer.items ≡ take c.args.start kept ++ drop c.args.end kept = rw c.as_slice.ensures.value at c.in_ok-fewer.ensures in
    let tried : c.in_ok-tried.tried.items ≡ take c.args.start kept ++ drop c.args.end kept = rw c.as_slice-2.ensures.value at c.in_ok-tried.ensures in
    λ records s.
    shortened-by records c.args.one.now c.args.other.now kept c.in_ok-fewer.fewer.items c.in_ok-tried.tried.items
    c.args.self.now.derivation.steps.items c.in-Some.derivation.steps.items c.args.self.now.derivation.edition c.in-Some.derivation.edition
    c.args.start c.args.end fewer tried told s
