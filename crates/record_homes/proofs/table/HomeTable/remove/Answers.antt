use Rattle.std.proofs.Common.{length, sym, ap, ◌∙◌, arith}
use Rattle.std.specs.Prelude.{is_some}
use Rattle.std.specs.BTreeMap.{is_at}
use Rattle.std.specs.Map.{remove_entry}
use Rattle.union_base.specs.RecordIds.{id_cmp}
use Rattle.record_homes.specs.Maps.{Homes, in_order}
use Rattle.record_homes.specs.Libraries.{pairs_in}
use Rattle.record_homes.proofs.TableLaws.{at-table, table-removed, count-removed, removed-none}
use Rattle.record_homes.proofs.table.HomeTable.remove.Goals as goal

pub overflow_sub-self : goal.overflow_sub-self
overflow_sub-self c =
    let old = c.self.inside.libraries.entries in
    let id = c.args.id.now in
    let was = ap is_some (at-table old c.self.invariant.0 id) ∙ sym c.take.ensures.was ∙ c.if-take.true in
    omega (arith, c.self.invariant.1, count-removed (in_order (pairs_in old)) id was)

pub invariant_of-self : goal.invariant_of-self
invariant_of-self c =
    let old = c.self.inside.libraries.entries in
    let new = c.take.new.libraries.entries in
    let id = c.args.id.now in
    let was = ap is_some (at-table old c.self.invariant.0 id) ∙ sym c.take.ensures.was ∙ c.if-take.true in
    let gone = ap length (table-removed old new id c.self.invariant.0 c.take.ensures.ordered c.take.ensures.set) in (
      c.take.ensures.ordered,
      omega (arith, c.self.invariant.1, count-removed (in_order (pairs_in old)) id was, gone),
    )

pub invariant_of-self-else-take : goal.invariant_of-self-else-take
invariant_of-self-else-take c =
    let old = c.self.inside.libraries.entries in
    let new = c.take.new.libraries.entries in
    let id = c.args.id.now in
    let was = ap is_some (at-table old c.self.invariant.0 id) ∙ sym c.take.ensures.was ∙ c.if-take.false in (
      c.take.ensures.ordered,
      c.self.invariant.1
          ∙ ap length (sym (table-removed old new id c.self.invariant.0 c.take.ensures.ordered c.take.ensures.set ∙ removed-none (in_order (pairs_in old)) id was)),
    )

pub returns-then-take : goal.returns-then-take
returns-then-take c =
    table-removed c.self.inside.libraries.entries c.take.new.libraries.entries c.args.id.now c.self.invariant.0 c.take.ensures.ordered c.take.ensures.set
    ∙ ap (λ (v : Homes). remove_entry (is_at (id_cmp c.args.id.now)) v.entries) c.self.view_is

pub returns-else-take : goal.returns-else-take
returns-else-take c =
    table-removed c.self.inside.libraries.entries c.take.new.libraries.entries c.args.id.now c.self.invariant.0 c.take.ensures.ordered c.take.ensures.set
    ∙ ap (λ (v : Homes). remove_entry (is_at (id_cmp c.args.id.now)) v.entries) c.self.view_is
