-- The parts of a prepared batch, in whichever form they are kept.
use Rattle.std.proofs.Common.{◌≡◌, ℕ, List, sym, subst}
use Rattle.catalogue_editions.specs.Net.{net}
use Rattle.catalogue_editions.specs.Resolutions.{IsOrderedResolution}
use Rattle.catalogue_editions.specs.declared.batch.Batch.{Batch}
use Rattle.catalogue_editions.specs.declared.edition.Edition.{Edition}
use Rattle.catalogue_editions.specs.declared.history_entry.HistoryEntry.{HistoryEntry}
use Rattle.catalogue_editions.proofs.Apart.{one-ordered}
use Rattle.turn_plans.specs.Histories.{current}
use Rattle.turn_plans.specs.PreparedReaches.{IsReachOfParts}

-- a reach of the parts of a batch, in whichever form the batch, its parts and the history are kept
pub one-reach : (prepared batch : Batch) (kept parts : List Edition) (history inside : List HistoryEntry) (number : ℕ) → batch ≡ prepared → inside ≡ history
    → IsOrderedResolution (net prepared) kept → IsOrderedResolution (net prepared) parts → IsReachOfParts prepared.library (current history) prepared.ops parts number
    → IsReachOfParts batch.library (current inside) batch.ops kept number
one-reach prepared batch kept parts history inside number same stood is other r =
    let mine : IsReachOfParts prepared.library (current history) prepared.ops kept number =
    subst (λ ps. IsReachOfParts prepared.library (current history) prepared.ops ps number) (one-ordered (net prepared) parts kept other is) r in
    let there : IsReachOfParts prepared.library (current inside) prepared.ops kept number =
    subst (λ hs. IsReachOfParts prepared.library (current hs) prepared.ops kept number) (sym stood) mine in
    subst (λ (b : Batch). IsReachOfParts b.library (current inside) b.ops kept number) (sym same) there
