use Rattle.std.proofs.Common.{take, subst, sym, ap, ◌∙◌, ◌∷◌, [], ◌++◌}
use Rattle.std.proofs.lemmas.List.{take_more}
use Rattle.work_clusters.specs.Works.{AreWorks}
use Rattle.work_clusters.specs.Room.{WorkMap}
use Rattle.work_clusters.specs.Steps.{TakesOut}
use Rattle.work_clusters.proofs.Reading.{works_from_entries}
use Rattle.work_clusters.proofs.Steps.{takes_out_none, takes_out_more}
use Rattle.work_clusters.proofs.works.Works.take_out.Goals as goal

pub loop-key-init : goal.loop-key-init
loop-key-init c = takes_out_none c.args.self.now

pub loop-key-preserved : goal.loop-key-preserved
loop-key-preserved c =
    let x = c.loop-key-item.result in
    subst (TakesOut c.args.self.now c.take_out_one.new.self)
    (ap (λ y. take c.loop-key.key-index c.args.gone.now ++ y ∷ []) c.loop-key-item.is ∙ sym (take_more c.args.gone.now c.loop-key.key-index x c.loop-key-test.true))
    (takes_out_more c.args.self.now c.loop-key.self c.take_out_one.new.self (take c.loop-key.key-index c.args.gone.now) x c.loop-key.invariant c.take_out_one.ensures)

pub returns-clause-well : goal.returns-clause-well
returns-clause-well c = subst (λ (v : WorkMap). AreWorks v.works) c.self.view_is (works_from_entries c.self.inside.rows.entries c.self.invariant.well)
