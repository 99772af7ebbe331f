use Rattle.std.proofs.Common.{length, sym, ap, ◌∙◌}
use Rattle.record_homes.specs.Maps.{Homes, change_at, in_order}
use Rattle.record_homes.specs.Libraries.{pairs_in}
use Rattle.record_homes.specs.declared.home.Home.{Home}
use Rattle.record_homes.proofs.TableLaws.{table-changed, count-changed}
use Rattle.record_homes.proofs.table.HomeTable.set_place.Goals as goal

pub invariant_of-self : goal.invariant_of-self
invariant_of-self c =
    let old = c.self.inside.libraries.entries in
    let moves : Home → Home = λ home. record { place = c.args.place; block = home.block } in (
      c.change.ensures.ordered,
      c.self.invariant.1 ∙ sym (count-changed (in_order (pairs_in old)) c.args.id.now moves)
          ∙ ap length (sym (table-changed old c.change.new.libraries.entries c.args.id.now moves c.self.invariant.0 c.change.ensures.ordered c.change.ensures.set)),
    )

pub returns : goal.returns
returns c =
    let old = c.self.inside.libraries.entries in
    let moves : Home → Home = λ home. record { place = c.args.place; block = home.block } in
    table-changed old c.change.new.libraries.entries c.args.id.now moves c.self.invariant.0 c.change.ensures.ordered c.change.ensures.set
    ∙ ap (λ (v : Homes). change_at c.args.id.now moves v.entries) c.self.view_is
