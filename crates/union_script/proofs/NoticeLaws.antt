-- What is told of the turns of a load, one turn more.
use Rattle.std.proofs.Common.{ℕ, Bool, List, [], ◌∷◌, ◌++◌, refl, sym, ap, subst, ◌∙◌, append_assoc, append-nil}
use Rattle.catalogue_editions.specs.declared.batch.Batch.{Batch}
use Rattle.catalogue_editions.specs.declared.history_entry.HistoryEntry.{HistoryEntry}
use Rattle.union_script.specs.Notices.{TellsTurn, TellsTurns, with_turn}
use Rattle.union_script.specs.Texts.{turns_of}

pub tells_more : (told : Bool) (history : List HistoryEntry) (batches : List Batch) (batch : Batch) (one two : List ℕ)
    → TellsTurns told history batches one → TellsTurn told (history ++ turns_of batches) batch two
    → TellsTurns told history (batches ++ batch ∷ []) (one ++ two)
tells_more told history [] batch one two all turn =
    (two, [], subst (λ h. TellsTurn told h batch two) (append-nil history) turn, refl, ap (λ text. text ++ two) all ∙ sym (append-nil two))
tells_more told history (first ∷ batches) batch one two all turn = (
  all.0,
  all.1 ++ two,
  all.2,
  tells_more told (with_turn history first) batches batch all.1 two all.3
      (subst (λ h. TellsTurn told h batch two) (sym (append_assoc history (record { pass = 0; batch = first } ∷ []) (turns_of batches))) turn),
  ap (λ text. text ++ two) all.4 ∙ append_assoc all.0 all.1 two,
)
