use Rattle.std.proofs.Common.{sym, ap, ◌∙◌}
use Rattle.work_clusters.specs.Entries.{works_in}
use Rattle.work_clusters.proofs.Writing.{counted-remove_entry, works-remove_entry}
use Rattle.work_clusters.proofs.works.Works.drop_empty_one.Goals.{in-Some-1, in-None-1}
use Rattle.work_clusters.proofs.works.Works.drop_empty_one.Goals as goal

pub invariant_of-self : goal.invariant_of-self
invariant_of-self c =
    counted-remove_entry _ c.self.inside.rows.entries _ c.in-Some.work.now c.self.inside.filled c.self.invariant (sym c.in-Some.ensures.value)
    c.remove-dropped.ensures.entries c.remove-dropped.ensures.ordered (sym c.if-not-has_editions.ensures)

pub returns-then-not-has_editions : goal.returns-then-not-has_editions
returns-then-not-has_editions c =
    let same =
    ap works_in c.remove-dropped.ensures.entries ∙ works-remove_entry _ c.self.inside.rows.entries c.in-Some.work.now (sym c.in-Some.ensures.value) (sym c.if-not-has_editions.ensures)
    ∙ ap (λ v. v.works) c.self.view_is in
    elim c.match-dropped.branch [ in-Some-1 w ↦ rw w.self-is same | in-None-1 w ↦ rw w.self-is same ]
