use Rattle.std.proofs.Common.{[], sym, ap, ◌∙◌}
use Rattle.std.specs.Prelude.{unwrap_or}
use Rattle.std.specs.Option.{option_copied}
use Rattle.record_homes.specs.Maps.{Homes, at_id}
use Rattle.record_homes.specs.Libraries.{row_at}
use Rattle.record_homes.proofs.TableLaws.{at-table}
use Rattle.record_homes.proofs.table.HomeTable.get.Goals as goal

pub returns-in-Some : goal.returns-in-Some
returns-in-Some c =
    let id = c.args.id.now in
    c.get-in-Some.ensures
    ∙ ap (λ o. row_at (unwrap_or o []) id.control) (sym (ap option_copied c.in-Some.is) ∙ c.get.ensures.value)
    ∙ sym (at-table c.self.inside.libraries.entries c.self.invariant.0 id)
    ∙ ap (λ (v : Homes). at_id v.entries id) c.self.view_is

pub returns-in-None : goal.returns-in-None
returns-in-None c =
    let id = c.args.id.now in
    ap (λ o. row_at (unwrap_or o []) id.control) (sym (ap option_copied c.in-None.is) ∙ c.get.ensures.value)
    ∙ sym (at-table c.self.inside.libraries.entries c.self.invariant.0 id)
    ∙ ap (λ (v : Homes). at_id v.entries id) c.self.view_is
