use Rattle.std.proofs.Common.{sym, subst}
use Rattle.record_homes.specs.TouchedIds.{TouchedIds, IsAbove}
use Rattle.record_homes.proofs.TouchedLaws.{ordered-last}
use Rattle.record_homes.proofs.ascending_ids.AscendingIds.push.Goals as goal

pub invariant_of-self-2 : goal.invariant_of-self-2
invariant_of-self-2 c =
    ordered-last c.args.id c.args.place c.self.inside.entries.items c.push.new.self.items c.self.invariant
    (subst (λ (ids : TouchedIds). IsAbove c.args.id ids.entries) (sym c.self.view_is) c.requires) c.in_ok-push.ensures.items
