use Rattle.std.proofs.Common.{◌≡◌, ◌<◌, List, length, get_or, take, refl, subst}
use Rattle.std.specs.Prelude.{fold, Some, slice_get}
use Rattle.std.proofs.lemmas.Option.{slice_get_read}
use Rattle.catalogue_editions.specs.declared.op.Op.{Op}
use Rattle.turn_plans.specs.Histories.{after_op}
use Rattle.catalogue_export.proofs.RecordLaws.{ops-next, ordered-ops}
use Rattle.catalogue_export.proofs.records.follow_batch.Goals as goal

pub loop-op-preserved : goal.loop-op-preserved
loop-op-preserved c = λ editions up h.
    let batch = c.args.batch.now in
    let at = c.loop-op.op-index in
    let op = c.op-item.result in
    let is : op ≡ get_or batch.ops at op = subst (λ (xs : List Op). op ≡ get_or xs at op) c.as_slice-ops.ensures c.op-item.is in
    let below : at < length batch.ops = subst (λ (xs : List Op). at < length xs) c.as_slice-ops.ensures c.loop-op-test.true in
    let there : slice_get batch.ops at ≡ Some op = slice_get_read batch.ops (length batch.ops) at op refl below is in
    ops-next batch.library batch.ops at op c.follow.new.holdings.entries editions there
    (c.in_ok-follow.ensures (fold (after_op batch.library) editions (take at batch.ops)) (ordered-ops batch.library editions (take at batch.ops) up)
    (c.loop-op.invariant editions up h))
