use Rattle.std.proofs.Common.{Bor, [], ◌∷◌, ◌++◌, Some, None, sym, ap, ◌∙◌, append-nil}
use Rattle.std.specs.Option.{option_copied}
use Rattle.std.proofs.lemmas.List.{map-append}
use Rattle.catalogue_editions.specs.declared.edition.Edition.{Edition}
use Rattle.edition_blocks.proofs.LookingLaws.{value_at, found-more}
use Rattle.edition_blocks.proofs.looking.under_numbers.Goals as goal
use Rattle.edition_blocks.proofs.looking.under_numbers.Goals.{in-Some+in_ok-push, in_default}

pub loop-number-preserved : goal.loop-number-preserved
loop-number-preserved c =
    let numbers = c.args.numbers.now in
    let place = c.loop-number.number-index in
    let f = value_at c.args.blocks.now.blocks in
    elim c.match-block.branch [
      | in-Some+in_ok-push w ↦
          rw w.found-is (rw w.in_ok-push.ensures.items (
          map-append (λ (e : Bor Edition). e.now) c.loop-number.found.items (w.in-Some.edition ∷ [])
          ∙ ap (λ l. l ++ w.in-Some.edition.now ∷ []) c.loop-number.invariant
          ∙ sym (found-more f numbers place (Some w.in-Some.edition.now) c.loop-number-test.true (sym (ap option_copied w.in-Some.is) ∙ c.block.ensures))))
      | in_default w ↦
          rw w.found-is (c.loop-number.invariant
          ∙ sym (found-more f numbers place None c.loop-number-test.true (sym (ap option_copied w.in_default.is) ∙ c.block.ensures) ∙ append-nil _))
    ]
