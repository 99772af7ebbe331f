-- What a turn makes of the editions of a catalogue is what its plan makes of the blocks.
use Rattle.std.proofs.Common.{◌≡◌, ℕ, List, [], ◌∷◌, ◌++◌, sym, ap, subst, ◌∙◌}
use Rattle.std.specs.Prelude.{Option}
use Rattle.std.specs.Map.{values_of as values}
use Rattle.std.proofs.lemmas.List.Sums.{fold-append}
use Rattle.merge_laws.specs.Resolution.{AreApart}
use Rattle.merge_laws.proofs.Resolutions.{apart-from_resolution, IsPermutation-from_resolutions}
use Rattle.swoosh_resolver.specs.Changes.{view_of}
use Rattle.swoosh_resolver.specs.Tables.{blocks_in, values_of}
use Rattle.catalogue_editions.specs.JoinLaws.{edition_join_laws}
use Rattle.catalogue_editions.specs.Matching.{match}
use Rattle.catalogue_editions.specs.MatchLaws.{edition_match_laws}
use Rattle.catalogue_editions.specs.Resolutions.{IsOrderedResolution}
use Rattle.catalogue_editions.specs.declared.edition.Edition.{Edition}
use Rattle.edition_blocks.specs.Deltas.{IsDelta}
use Rattle.edition_blocks.proofs.DeltaLaws.{delta-permutation}
use Rattle.edition_blocks.specs.Grouping.{KeptWorks}
use Rattle.turn_plans.specs.Histories.{MapOf, after_batch, bases, current, AreEditionsOf}
use Rattle.turn_plans.specs.Homes.{Block}
use Rattle.turn_plans.specs.Keeping.{batches}
use Rattle.catalogue_core.specs.Kept.{IsKept}
use Rattle.turn_plans.specs.Plans.{IsPlanned}
use Rattle.catalogue_editions.specs.declared.history_entry.HistoryEntry.{HistoryEntry}
use Rattle.record_homes.specs.declared.home.Home.{Home}
use Rattle.record_homes.specs.declared.place.Place.{Place}

pub kept-apart : (history : List HistoryEntry) (homes : MapOf Home) (blocks : List (Option Block)) (works : KeptWorks) → IsKept history homes blocks works
    → AreApart match (values_of (blocks_in blocks))
kept-apart history homes blocks works k = apart-from_resolution edition_join_laws edition_match_laws (bases history) (values_of (blocks_in blocks)) k.resolved

pub delta-told_of : (history turns now : List HistoryEntry) (entry : HistoryEntry) (homes : MapOf Home) (blocks : List (Option Block)) (works : KeptWorks)
    → IsKept history homes blocks works → history ≡ turns → now ≡ history ++ entry ∷ []
    → (closed : List ℕ) (opened : List Block) (touched : MapOf (Option Place))
    → IsPlanned (batches history ++ entry.batch ∷ []) homes blocks (after_batch (current history) entry.batch) closed opened touched
    → (gone come : List Edition) → IsDelta (values_of (blocks_in blocks)) (view_of blocks closed opened) gone come
    → (before after : List Edition) → AreEditionsOf turns before → AreEditionsOf now after → IsDelta before after gone come
delta-told_of history turns now entry homes blocks works k is grown closed opened touched p gone come delta before after first then =
    let turn : current now ≡ after_batch (current history) entry.batch =
    ap current grown ∙ fold-append (λ all (entry : HistoryEntry). after_batch all entry.batch) [] history (entry ∷ []) in
    let own : IsOrderedResolution (bases history) before = subst (λ turns. IsOrderedResolution (bases turns) before) (sym is) first in
    let next : IsOrderedResolution (values (after_batch (current history) entry.batch)) after = subst (λ all. IsOrderedResolution (values all) after) turn then in
    delta-permutation (values_of (blocks_in blocks)) before (view_of blocks closed opened) after gone come
    (IsPermutation-from_resolutions edition_join_laws edition_match_laws (bases history) (values_of (blocks_in blocks)) before k.resolved own.resolved)
    (IsPermutation-from_resolutions edition_join_laws edition_match_laws (values (after_batch (current history) entry.batch)) (view_of blocks closed opened) after p.resolved next.resolved)
    delta
