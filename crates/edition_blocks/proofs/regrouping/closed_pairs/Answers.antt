use Rattle.std.proofs.Common.{[], ◌∷◌, ◌++◌, ℕ, List, get_or, sym, ap, ◌∙◌, append-nil}
use Rattle.std.specs.Prelude.{Option, Some, None, option_copied}
use Rattle.std.specs.Option.{option_map}
use Rattle.union_base.specs.declared.record_id.RecordId.{RecordId}
use Rattle.swoosh_resolver.specs.Tables.{block_at}
use Rattle.swoosh_resolver.proofs.Places.{block-from_value, none-from_value}
use Rattle.record_editions.specs.EditionKeys.{work_key_by}
use Rattle.catalogue_editions.specs.Ids.{least}
use Rattle.catalogue_editions.specs.declared.edition.Edition.{Edition}
use Rattle.edition_blocks.proofs.BlockLaws.{Block}
use Rattle.edition_blocks.proofs.LookingLaws.{found-more}
use Rattle.edition_blocks.proofs.regrouping.closed_pairs.Goals as goal
use Rattle.edition_blocks.proofs.regrouping.closed_pairs.Goals.{in-Some+in_ok-work_pair+in_ok-push, in_default}

pub loop-number-preserved : goal.loop-number-preserved
loop-number-preserved c =
    let numbers = c.args.closed.now in
    let place = c.loop-number.number-index in
    let at = block_at c.args.blocks.now.blocks (get_or numbers place 0) in
    let pair : Edition → List ℕ × RecordId = λ e. (work_key_by c.args.names.now e, least e) in
    let found : ℕ → Option (List ℕ × RecordId) = λ n. option_map (λ (e : Block). pair e.value) (block_at c.args.blocks.now.blocks n) in
    elim c.match-block.branch [
      | in-Some+in_ok-work_pair+in_ok-push w ↦
          (let (e, stands, same) = block-from_value at w.in-Some.edition.now (sym (ap option_copied w.in-Some.is) ∙ c.block.ensures) in
          ap (λ pairs. pairs.items) w.pairs-is ∙ w.in_ok-push.ensures.items
          ∙ ap (λ l. l ++ w.in_ok-work_pair.field-0 ∷ []) c.loop-number.invariant
          ∙ sym (found-more found numbers place (Some w.in_ok-work_pair.field-0) c.loop-number-test.true
          (ap Some (w.in_ok-work_pair.ensures ∙ ap pair same) ∙ sym (ap (option_map (λ (e : Block). pair e.value)) stands))))
      | in_default w ↦
          (let gone = none-from_value at (sym (ap option_copied w.in_default.is) ∙ c.block.ensures) in
          ap (λ pairs. pairs.items) w.pairs-is ∙ c.loop-number.invariant
          ∙ sym (found-more found numbers place None c.loop-number-test.true (sym (ap (option_map (λ (e : Block). pair e.value)) gone)) ∙ append-nil _))
    ]
