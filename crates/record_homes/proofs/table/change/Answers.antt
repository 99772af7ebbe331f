use Rattle.std.proofs.Common.{[], refl, sym, ap, subst, ◌∙◌}
use Rattle.std.specs.Prelude.{IsSome, unwrap_or, if◌then◌else◌}
use Rattle.std.specs.BTreeMap.{is_at}
use Rattle.union_base.specs.RecordIds.{id_cmp}
use Rattle.std.specs.Option.{option_map}
use Rattle.record_homes.specs.Maps.{moved_to}
use Rattle.record_homes.specs.Libraries.{row_at, home_at}
use Rattle.record_homes.proofs.TableLaws.{home-set, none-set}
use Rattle.record_homes.proofs.table.change.Goals as goal

pub returns-in-Some-clause-set : goal.returns-in-Some-clause-set
returns-in-Some-clause-set c q =
    let id = c.args.id.now in
    let old = c.args.libraries.now.entries in
    let was = ap (λ o. unwrap_or o []) c.in-Some.ensures.value in
    let set = c.change.ensures in
    home-set old (c.get_mut.follows.lender c.change.new.self).entries id c.in-Some.homes.now c.change.new.self
    (option_map (moved_to c.args.to) (row_at c.in-Some.homes.now id.control)) was
    ((c.get_mut.follows.holds c.change.new.self).3 (subst IsSome c.in-Some.ensures.value refl)).0 set q
    ∙ ap (λ rows. if◌then◌else◌ (is_at (id_cmp id) q) (option_map (moved_to c.args.to) (row_at rows id.control)) (home_at old q)) was

pub returns-in_default-clause-set : goal.returns-in_default-clause-set
returns-in_default-clause-set c =
    let id = c.args.id.now in
    let old = c.args.libraries.now.entries in
    let empty = sym (ap (λ o. unwrap_or o []) c.in_default.ensures.value) in
    rw c.get_mut.follows.holds-at-none (none-set old id (option_map (moved_to c.args.to) (home_at old id)) empty (ap (λ rows. option_map (moved_to c.args.to) (row_at rows id.control)) empty))
