use Rattle.std.proofs.Common.{[], refl, sym, ap, subst}
use Rattle.std.specs.Prelude.{IsSome, unwrap_or, None}
use Rattle.record_homes.proofs.TableLaws.{home-set, none-set}
use Rattle.record_homes.proofs.table.take.Goals as goal

pub returns-in-Some-clause-set : goal.returns-in-Some-clause-set
returns-in-Some-clause-set c =
    let id = c.args.id.now in
    home-set c.args.libraries.now.entries (c.get_mut.follows.lender c.take.new.self).entries id c.in-Some.homes.now c.take.new.self None
    (ap (λ o. unwrap_or o []) c.in-Some.ensures.value)
    ((c.get_mut.follows.holds c.take.new.self).3 (subst IsSome c.in-Some.ensures.value refl)).0 c.take.ensures.set

pub returns-in-None-clause-set : goal.returns-in-None-clause-set
returns-in-None-clause-set c =
    let id = c.args.id.now in
    let old = c.args.libraries.now.entries in
    rw c.get_mut.follows.holds-at-none (none-set old id None (sym (ap (λ o. unwrap_or o []) c.in-None.ensures.value)) refl)
