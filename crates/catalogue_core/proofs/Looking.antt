-- Looking for an edition by a contributor.
use Rattle.std.proofs.Common.{◌≡◌, Bool, true, false, cond, ◌||◌, List, [], ◌∷◌, length, Bor, refl, sym, ap, ◌∙◌}
use Rattle.std.specs.Prelude.{find, not, Option, Some, None, is_some, is_none}
use Rattle.std.specs.Option.{option_copied}
use Rattle.std.specs.List.{list_any}
use Rattle.std.specs.Map.{values_of}
use Rattle.std.proofs.lemmas.List.{length-map}
use Rattle.union_base.specs.declared.record_id.RecordId.{RecordId}
use Rattle.catalogue_editions.specs.declared.edition.Edition.{Edition}
use Rattle.catalogue_editions.specs.declared.batch.Batch.{Batch}
use Rattle.catalogue_editions.specs.declared.history_entry.HistoryEntry.{HistoryEntry}
use Rattle.record_homes.specs.declared.place.Place.{Place}
use Rattle.turn_plans.specs.Histories.{MapOf, is_current, current, bases, AreEditionsOf}
use Rattle.turn_plans.specs.Keeping.{loaded_at, StandFor}
use Rattle.turn_plans.proofs.Contributors.{bears, bears-resolution, bears-current, single-turns}
use Rattle.catalogue_core.specs.Walks.{holder_of}

pub none-copied : (got : Option (Bor Edition)) → is_none (option_copied got) ≡ is_none got
none-copied None = refl
none-copied (Some x) = refl

pub is_some-find : {A : Type 0} (p : A → Bool) (xs : List A) → is_some (find p xs) ≡ list_any p xs
is_some-find p [] = refl
is_some-find p (x ∷ xs) =
    elim (p x) as (λ b. is_some (cond b (Some x) (find p xs)) ≡ (b || list_any p xs)) [ true ↦ refl | false ↦ is_some-find p xs ]

-- some edition of a history has the contributor exactly where the id is current
pub holder-current : (history : List HistoryEntry) (editions : List Edition) → AreEditionsOf history editions → (id : RecordId)
    → is_none (holder_of editions id) ≡ not (is_current (current history) id)
holder-current history editions r id =
    ap not (is_some-find (bears id) editions ∙ bears-resolution (bases history) editions r.resolved id ∙ bears-current (current history) (single-turns [] history tt) id)

pub length-kept : (all : List Batch) (places : MapOf Place) (editions : MapOf Edition) → StandFor all places editions → length places ≡ length (values_of editions)
length-kept all places editions s =
    sym (length-map places (λ (p : RecordId × Place). (p.0, loaded_at all p.1))) ∙ ap length s.loads
    ∙ length-map editions (λ (p : RecordId × Edition). (p.0, Some p.1)) ∙ sym (length-map editions (λ (p : RecordId × Edition). p.1))
