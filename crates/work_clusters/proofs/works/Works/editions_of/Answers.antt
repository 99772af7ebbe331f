use Rattle.std.proofs.Common.{[], sym, ap, ◌∙◌}
use Rattle.std.specs.Prelude.{unwrap_or}
use Rattle.std.specs.Option.{option_map}
use Rattle.work_clusters.specs.Works.{ids_under}
use Rattle.work_clusters.proofs.Reading.{ids_read}
use Rattle.work_clusters.proofs.works.Works.editions_of.Goals as goal

pub returns-in-Some : goal.returns-in-Some
returns-in-Some c =
    c.ids.ensures ∙ ap (λ o. unwrap_or (option_map (λ w. w.ids) o) []) c.in-Some.ensures.value
    ∙ sym (ids_read c.self.inside.rows.entries c.self.invariant.well c.args.key.now) ∙ ap (λ v. ids_under v.works c.args.key.now) c.self.view_is

pub returns-in-None : goal.returns-in-None
returns-in-None c =
    ap (λ o. unwrap_or (option_map (λ w. w.ids) o) []) c.in-None.ensures.value
    ∙ sym (ids_read c.self.inside.rows.entries c.self.invariant.well c.args.key.now) ∙ ap (λ v. ids_under v.works c.args.key.now) c.self.view_is
