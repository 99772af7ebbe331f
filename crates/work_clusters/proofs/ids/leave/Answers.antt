use Rattle.std.proofs.Common.{◌≡◌, true, arith, subst, ap, ◌∙◌}
use Rattle.std.specs.List.{remove}
use Rattle.union_base.specs.IdLaws.{ids_apart}
use Rattle.union_base.specs.SortedLists.{is_ascending}
use Rattle.union_base.specs.RecordIds.{id_cmp}
use Rattle.work_clusters.proofs.WorksLaws.{id_total}
use Rattle.work_clusters.proofs.IdLists.{but, remove_at, but_gap, comparisons_rise}
use Rattle.work_clusters.proofs.ids.leave.Goals as goal

-- the id is taken away at its place
pub returns-in-Ok-clause-left : goal.returns-in-Ok-clause-left
returns-in-Ok-clause-left c =
    let s = c.deref.result.now in
    let ascending : is_ascending id_cmp s ≡ true = ap (is_ascending id_cmp) c.deref.ensures.value ∙ c.requires in
    c.remove-gone.ensures.items
    ∙ subst (λ xs. remove xs c.in-Ok.at ≡ but id_total ids_apart c.args.id.now xs) c.deref.ensures.value
    (remove_at id_total ids_apart c.args.id.now s c.in-Ok.at ascending c.in-Ok.ensures.bound c.in-Ok.ensures.ok)

-- an id that has a gap is not there
pub returns-in_default-clause-left : goal.returns-in_default-clause-left
returns-in_default-clause-left c =
    let s = c.deref.result.now in
    let ascending : is_ascending id_cmp s ≡ true = ap (is_ascending id_cmp) c.deref.ensures.value ∙ c.requires in
    let point = c.in_default.ensures.position (comparisons_rise id_total ids_apart s ascending c.args.id.now) in
    subst (λ xs. xs ≡ but id_total ids_apart c.args.id.now xs) c.deref.ensures.value
    (but_gap id_total ids_apart c.args.id.now s c.in_default.field-0 (λ j d lt. point.0 j d (omega arith) lt) (λ j d ge lt. point.1 j d ge lt))
