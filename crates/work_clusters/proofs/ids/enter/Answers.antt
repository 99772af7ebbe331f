use Rattle.std.proofs.Common.{◌≡◌, true, cond, arith, sym, subst, ap, ◌∙◌}
use Rattle.std.specs.List.{insert}
use Rattle.union_base.specs.IdLaws.{ids_apart}
use Rattle.union_base.specs.SortedLists.{is_ascending, put}
use Rattle.union_base.specs.RecordIds.{id_cmp}
use Rattle.work_clusters.proofs.WorksLaws.{id_total}
use Rattle.work_clusters.proofs.IdLists.{put_at, put_in_gap, comparisons_rise}
use Rattle.work_clusters.proofs.ids.enter.Goals as goal

-- a new id goes into its gap, for which there is room
pub returns-in-Err-clause-entered : goal.returns-in-Err-clause-entered
returns-in-Err-clause-entered c =
    let s = c.deref.result.now in
    let ascending : is_ascending id_cmp s ≡ true = ap (is_ascending id_cmp) c.deref.ensures.value ∙ c.requires.ascending in
    let point = c.in-Err.ensures.position (comparisons_rise id_total ids_apart s ascending c.args.id) in
    c.insert-placed.ensures.items
    ∙ ap (λ b. cond b (insert c.args.ids.now.items c.in-Err.at c.args.id) c.args.ids.now.items) (c.insert-placed.ensures.succeeds c.requires.room)
    ∙ subst (λ xs. insert xs c.in-Err.at c.args.id ≡ put id_cmp c.args.id xs) c.deref.ensures.value
    (put_in_gap id_total ids_apart c.args.id s c.in-Err.at c.in-Err.ensures.bound (λ j d lt. point.0 j d (omega arith) lt) (λ j d ge lt. point.1 j d ge lt))

-- an id that stands there stays
pub returns-in_default-clause-entered : goal.returns-in_default-clause-entered
returns-in_default-clause-entered c =
    let s = c.deref.result.now in
    let ascending : is_ascending id_cmp s ≡ true = ap (is_ascending id_cmp) c.deref.ensures.value ∙ c.requires.ascending in
    subst (λ xs. xs ≡ put id_cmp c.args.id xs) c.deref.ensures.value
    (sym (put_at id_total ids_apart c.args.id s c.in_default.field-0 ascending c.in_default.ensures.bound c.in_default.ensures.ok))
