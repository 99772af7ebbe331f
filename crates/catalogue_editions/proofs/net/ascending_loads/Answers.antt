use Rattle.std.proofs.Common.{◌≡◌, ◌∙◌, ◌+◌, ◌++◌, ◌∷◌, [], true, List, take, ap, sym, subst}
use Rattle.std.proofs.lemmas.List.{take_all}
use Rattle.std.proofs.lemmas.List.Sums.{fold_more}
use Rattle.std.specs.Prelude.{fold, Some, option_copied}
use Rattle.std.specs.Map.{values_of}
use Rattle.catalogue_editions.specs.CurrentRecords.{after_op}
use Rattle.catalogue_editions.specs.Net.{is_behind}
use Rattle.catalogue_editions.specs.declared.edition.Edition.{Edition}
use Rattle.catalogue_editions.specs.declared.op.Op.{Op}
use Rattle.catalogue_editions.proofs.NetLaws.{AreLeft, left-next, editions-of}
use Rattle.catalogue_editions.proofs.net.ascending_loads.Goals as goal

pub loop-op-preserved : goal.loop-op-preserved
loop-op-preserved c =
    let library = c.args.batch.now.library in
    let ops = c.as_slice-ops.result.now in
    let i = c.loop-op.op-index in
    let e = c.in-Load.edition in
    let behind : is_behind (option_copied c.loop-op.last) e ≡ true = sym c.is_behind.ensures ∙ c.if-is_behind.true in
    let folded = fold_more (after_op library) [] ops i c.op-item.result c.loop-op-test.true ∙ ap (after_op library (fold (after_op library) [] (take i ops))) (sym c.op-item.is ∙ c.in-Load.is) in
    let more = left-next c.loop-op.invariant e behind (take (i + 1) ops) folded in
    subst (λ (es : List Edition). AreLeft library (take (i + 1) ops) es (Some e))
    (sym (c.in_ok-push-in-Load.ensures.items ∙ ap (λ x. c.loop-op.editions.items ++ x ∷ []) c.in_ok-copied-in-Load.ensures)) more

pub returns : goal.returns
returns c =
    let left = sym (editions-of c.loop-op.editions.items) ∙ ap values_of (sym c.loop-op.invariant.left) in
    left ∙ ap (λ (ops : List Op). values_of (fold (after_op c.args.batch.now.library) [] ops)) (take_all c.loop-op.op-index c.as_slice-ops.result.now c.loop-op-test.false ∙ c.as_slice-ops.ensures)
