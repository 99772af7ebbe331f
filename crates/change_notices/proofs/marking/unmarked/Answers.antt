use Rattle.std.proofs.Common.{◌≡◌, ◌+◌, true, false, List, length, take, refl, sym, subst, ◌∙◌}
use Rattle.std.specs.Prelude.{Some, slice_get}
use Rattle.std.proofs.lemmas.List.{take_all}
use Rattle.std.proofs.lemmas.Option.{slice_get_read}
use Rattle.union_base.specs.SortedLists.{is_ascending}
use Rattle.catalogue_editions.specs.Ids.{edition_cmp}
use Rattle.catalogue_editions.specs.declared.edition.Edition.{Edition}
use Rattle.edition_blocks.specs.Deltas.{AreOnlyIn}
use Rattle.edition_blocks.proofs.DeltaLaws.{only-skipped, only-pushed}
use Rattle.change_notices.proofs.FollowerLaws.{ascending-take}
use Rattle.change_notices.proofs.DoubleLaws.{taken-more}
use Rattle.change_notices.proofs.marking.unmarked.Goals as goal
use Rattle.change_notices.proofs.marking.unmarked.Goals.{then-not-marks-place+in_ok-shared+in_ok-push, else-not-marks-place}

pub loop-place-preserved : goal.loop-place-preserved
loop-place-preserved c =
    λ closed are.
    let held = c.args.held.now in
    let place = c.loop-place.place in
    let x = c.index-held-place.result in
    let at : slice_get held place ≡ Some x = slice_get_read held (length held) place x refl c.loop-place-test.true c.index-held-place.is in
    let more = taken-more held place x c.loop-place-test.true c.index-held-place.is in
    let so_far = c.loop-place.invariant closed are in
    elim c.if-not-marks-place.branch [
      | then-not-marks-place+in_ok-shared+in_ok-push w ↦
          rw (w.left-is, more, w.in_ok-push.ensures.items, w.in_ok-shared.ensures)
          (only-pushed (take place held) closed c.loop-place.left.items x so_far
          (subst (λ ys. is_ascending edition_cmp ys ≡ true) more (ascending-take held (place + 1) c.requires.ascending))
          (λ h. let clash : false ≡ true = sym w.if-not-marks-place.true ∙ (are.each place x at).1 h in cc))
      | else-not-marks-place w ↦ rw (w.left-is, more) (only-skipped (take place held) closed c.loop-place.left.items x so_far ((are.each place x at).0 w.if-not-marks-place.false))
    ]

pub returns : goal.returns
returns c =
    λ closed are. subst (λ (xs : List Edition). AreOnlyIn xs closed c.loop-place.left.items) (take_all c.loop-place.place c.args.held.now c.loop-place-test.false) (c.loop-place.invariant closed are)
