use Rattle.std.proofs.Common.{◌≡◌, [], refl, ap, subst, ◌∙◌}
use Rattle.std.specs.Prelude.{IsSome, IfOk, is_some, not, unwrap_or, Some, if◌then◌else◌}
use Rattle.std.specs.BTreeMap.{is_at}
use Rattle.std.proofs.lemmas.Result.{on_ok_weaker}
use Rattle.union_base.specs.RecordIds.{id_cmp}
use Rattle.record_homes.specs.Libraries.{Sets, row_at, home_at, rows_of}
use Rattle.record_homes.proofs.TableLaws.{home-set, home-same, on_err_weaker}
use Rattle.record_homes.proofs.table.put.Goals as goal

pub returns-in-Some-clause-new : goal.returns-in-Some-clause-new
returns-in-Some-clause-new c =
    subst (λ rows. IfOk c.put.result (λ new. new ≡ not (is_some (row_at rows c.args.id.control)))) (ap (λ o. unwrap_or o []) c.in-Some.ensures.value) c.put.ensures.new

pub returns-in-Some-clause-set : goal.returns-in-Some-clause-set
returns-in-Some-clause-set c =
    let id = c.args.id in
    let old = c.args.libraries.now.entries in
    let was = ap (λ o. unwrap_or o []) c.in-Some.ensures.value in
    on_ok_weaker c.put.result (λ set q.
    home-set old (c.get_mut.follows.lender c.put.new.self).entries id c.in-Some.homes.now c.put.new.self (Some (unwrap_or (row_at c.in-Some.homes.now id.control) c.args.home)) was
    ((c.get_mut.follows.holds c.put.new.self).3 (subst IsSome c.in-Some.ensures.value refl)).0 set q
    ∙ ap (λ rows. if◌then◌else◌ (is_at (id_cmp id) q) (Some (unwrap_or (row_at rows id.control) c.args.home)) (home_at old q)) was) c.put.ensures.set

pub returns-in-Some-clause-kept : goal.returns-in-Some-clause-kept
returns-in-Some-clause-kept c =
    let id = c.args.id in
    on_err_weaker c.put.result (λ same.
    home-same c.args.libraries.now.entries (c.get_mut.follows.lender c.put.new.self).entries id.library c.put.new.self
    (same ∙ ap (λ o. unwrap_or o []) c.in-Some.ensures.value)
    ((c.get_mut.follows.holds c.put.new.self).3 (subst IsSome c.in-Some.ensures.value refl)).0) c.put.ensures.kept

pub returns-in_ok-insert-in-None-clause-new : goal.returns-in_ok-insert-in-None-clause-new
returns-in_ok-insert-in-None-clause-new c = ap (λ rows. not (is_some (row_at rows c.args.id.control))) (ap (λ o. unwrap_or o []) c.in-None.ensures.value)

pub returns-in_ok-insert-in-None-clause-set : goal.returns-in_ok-insert-in-None-clause-set
returns-in_ok-insert-in-None-clause-set c =
    let id = c.args.id in
    let old = c.args.libraries.now.entries in
    let empty = ap (λ o. unwrap_or o []) c.in-None.ensures.value in
    let writes = rw c.get_mut.follows.holds-at-none at c.in_ok-insert-in-None.ensures.updates in
    home-set old c.insert.new.self.entries id (rows_of old id.library) c.put-in-None.new.self (Some (unwrap_or (home_at old id) c.args.home)) refl writes.0
    (subst (λ rows. Sets rows c.put-in-None.new.self id.control (Some (unwrap_or (row_at rows id.control) c.args.home))) (c.empty-homes.ensures ∙ empty) c.in_ok-put-in-None.ensures.set)
