use Rattle.std.proofs.Common.{◌≡◌, ◌+◌, Bor, true, false, refl, List, [], ◌∷◌, ◌++◌, take, map, sym, ap, subst, ◌∙◌}
use Rattle.union_base.specs.SortedLists.{is_ascending}
use Rattle.catalogue_editions.specs.Ids.{edition_cmp}
use Rattle.catalogue_editions.specs.declared.edition.Edition.{Edition}
use Rattle.edition_blocks.specs.Deltas.{AreOnlyIn}
use Rattle.edition_blocks.proofs.DeltaLaws.{only-skipped, only-pushed, seen-more, ascending-seen}
use Rattle.edition_blocks.proofs.telling.only_in.Goals as goal
use Rattle.edition_blocks.proofs.telling.only_in.Goals.{then-not-among+in_ok-shared+in_ok-push, else-not-among}

pub loop-edition-preserved : goal.loop-edition-preserved
loop-edition-preserved c =
    let xs = c.args.editions.now in
    let i = c.loop-edition.edition-index in
    let x = c.edition-item.result in
    let others = map (λ (e : Bor Edition). e.now) c.args.others.now in
    let seen = map (λ (e : Bor Edition). e.now) (take i xs) in
    let more = seen-more xs i x c.loop-edition-test.true ∙ ap (λ (e : Bor Edition). seen ++ e.now ∷ []) (sym c.edition-item.is) in
    elim c.if-not-among.branch [
      | then-not-among+in_ok-shared+in_ok-push w ↦
          rw (w.found-is, more, w.in_ok-push.ensures.items, w.in_ok-shared.ensures)
          (only-pushed seen others c.loop-edition.found.items x.now c.loop-edition.invariant
          (subst (λ ys. is_ascending edition_cmp ys ≡ true) more (ascending-seen xs (i + 1) c.requires.own))
          (λ h. let never : false ≡ true = sym w.if-not-among.true ∙ c.in_ok-among.ensures.1 h in cc))
      | else-not-among w ↦ rw (w.found-is, more) (only-skipped seen others c.loop-edition.found.items x.now c.loop-edition.invariant (c.in_ok-among.ensures.0 w.if-not-among.false))
    ]
