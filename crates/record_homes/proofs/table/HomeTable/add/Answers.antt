use Rattle.std.proofs.Common.{length, sym, ap, ◌∙◌, arith}
use Rattle.std.specs.Prelude.{if◌then◌else◌, is_some, not}
use Rattle.std.specs.BTreeMap.{insert_entry}
use Rattle.union_base.specs.RecordIds.{id_cmp}
use Rattle.record_homes.specs.Maps.{Homes, at_id, in_order}
use Rattle.record_homes.specs.Libraries.{pairs_in, home_at}
use Rattle.record_homes.proofs.TableLaws.{at-table, table-put, table-kept, table-same, count-inserted, none-from_new, some-from_old, on_err}
use Rattle.record_homes.proofs.table.HomeTable.add.Goals as goal

pub invariant_of-self : goal.invariant_of-self
invariant_of-self c = (
  c.put.ensures.ordered,
  c.self.invariant.1
      ∙ ap length (sym (table-same c.self.inside.libraries.entries c.put.new.libraries.entries c.self.invariant.0 c.put.ensures.ordered c.in_err-new.ensures.kept)),
)

pub returns-in_err-new-clause-kept : goal.returns-in_err-new-clause-kept
returns-in_err-new-clause-kept c =
    on_err c.from_residual.result
    (table-same c.self.inside.libraries.entries c.put.new.libraries.entries c.self.invariant.0 c.put.ensures.ordered c.in_err-new.ensures.kept
    ∙ ap (λ (v : Homes). v.entries) c.self.view_is)

pub invariant_of-self-then-new : goal.invariant_of-self-then-new
invariant_of-self-then-new c =
    let old = c.self.inside.libraries.entries in
    let none = none-from_new (home_at old c.args.id) (sym c.in_ok-new.ensures.new ∙ c.if-new.true) in
    let more = count-inserted (in_order (pairs_in old)) c.args.id c.args.home (at-table old c.self.invariant.0 c.args.id ∙ none) in
    let come = ap length (table-put old c.put.new.libraries.entries c.args.id c.args.home c.self.invariant.0 c.put.ensures.ordered none c.in_ok-new.ensures.set) in (
      c.put.ensures.ordered,
      omega (arith, c.self.invariant.1, more, come),
    )

pub invariant_of-self-else-new : goal.invariant_of-self-else-new
invariant_of-self-else-new c =
    let old = c.self.inside.libraries.entries in
    let some = some-from_old (home_at old c.args.id) (sym c.in_ok-new.ensures.new ∙ c.if-new.false) in (
      c.put.ensures.ordered,
      c.self.invariant.1 ∙ ap length (sym (table-kept old c.put.new.libraries.entries c.args.id c.args.home c.self.invariant.0 c.put.ensures.ordered some c.in_ok-new.ensures.set)),
    )

pub returns-then-new-clause-new : goal.returns-then-new-clause-new
returns-then-new-clause-new c =
    c.in_ok-new.ensures.new
    ∙ ap (λ o. not (is_some o)) (sym (at-table c.self.inside.libraries.entries c.self.invariant.0 c.args.id))
    ∙ ap (λ (v : Homes). not (is_some (at_id v.entries c.args.id))) c.self.view_is

pub returns-then-new-clause-added : goal.returns-then-new-clause-added
returns-then-new-clause-added c =
    let old = c.self.inside.libraries.entries in
    let none = none-from_new (home_at old c.args.id) (sym c.in_ok-new.ensures.new ∙ c.if-new.true) in
    table-put old c.put.new.libraries.entries c.args.id c.args.home c.self.invariant.0 c.put.ensures.ordered none c.in_ok-new.ensures.set
    ∙ ap (λ (v : Homes). insert_entry id_cmp v.entries c.args.id c.args.home) c.self.view_is
    ∙ sym (ap (λ b. if◌then◌else◌ b (insert_entry id_cmp c.args.self.now.entries c.args.id c.args.home) c.args.self.now.entries) c.if-new.true)

pub returns-else-new-clause-new : goal.returns-else-new-clause-new
returns-else-new-clause-new c =
    c.in_ok-new.ensures.new
    ∙ ap (λ o. not (is_some o)) (sym (at-table c.self.inside.libraries.entries c.self.invariant.0 c.args.id))
    ∙ ap (λ (v : Homes). not (is_some (at_id v.entries c.args.id))) c.self.view_is

pub returns-else-new-clause-added : goal.returns-else-new-clause-added
returns-else-new-clause-added c =
    let old = c.self.inside.libraries.entries in
    let some = some-from_old (home_at old c.args.id) (sym c.in_ok-new.ensures.new ∙ c.if-new.false) in
    table-kept old c.put.new.libraries.entries c.args.id c.args.home c.self.invariant.0 c.put.ensures.ordered some c.in_ok-new.ensures.set
    ∙ ap (λ (v : Homes). v.entries) c.self.view_is
    ∙ sym (ap (λ b. if◌then◌else◌ b (insert_entry id_cmp c.args.self.now.entries c.args.id c.args.home) c.args.self.now.entries) c.if-new.false)
