use Rattle.std.proofs.Common.{eqb, subst, sym}
use Rattle.std.specs.List.{dedup}
use Rattle.std.proofs.lemmas.List.Filters.{dedup_is}
use Rattle.std.proofs.lemmas.List.Kept.{Contains-dedup_nat, Contains-from_dedup}
use Rattle.std.proofs.lemmas.List.Sorted.{Contains-permutation, IsPermutation-sym}
use Rattle.std.proofs.lemmas.Map.Keys.{IsStrictlyIncreasing-dedup}
use Rattle.feature_index.specs.Postings.{Ascends}
use Rattle.feature_index.proofs.Ascending.{ascends-from_next}
use Rattle.swoosh_resolver.proofs.posting.in_order.Goals as goal

pub returns-clause-ascending : goal.returns-clause-ascending
returns-clause-ascending c =
    let kept = dedup_is eqb c.sort.new.self.items c.dedup.new.self.items c.dedup.ensures.filtered in
    subst Ascends (sym kept) (ascends-from_next (dedup eqb c.sort.new.self.items) (IsStrictlyIncreasing-dedup c.sort.new.self.items c.in_ok-sort.ensures.sorted))

pub returns-clause-members : goal.returns-clause-members
returns-clause-members c n =
    let sorted = c.sort.new.self.items in
    let p = c.sort.ensures.permutation in
    let kept = dedup_is eqb sorted c.dedup.new.self.items c.dedup.ensures.filtered in
    rw kept (
      λ there. Contains-permutation sorted c.args.numbers.items n (IsPermutation-sym c.args.numbers.items sorted p) (Contains-from_dedup eqb sorted n there),
      λ there. Contains-dedup_nat sorted n (Contains-permutation c.args.numbers.items sorted n p there),
    )
