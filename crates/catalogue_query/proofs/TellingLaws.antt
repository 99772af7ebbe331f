-- What is told of editions, one by one.
use Rattle.std.proofs.Common.{◌≡◌, List, [], filter, refl, sym, ap, ◌∙◌, append-nil}
use Rattle.std.specs.declared.option.Option.{Option}
use Rattle.std.specs.declared.option.Option.TheVariants.{Some, None}
use Rattle.std.specs.Option.{option_to_list, option_map_or}
use Rattle.std.specs.List.{flat_map}
use Rattle.std.proofs.lemmas.List.Concat.{flat_map-cons}
use Rattle.union_base.specs.declared.record_id.RecordId.{RecordId}
use Rattle.catalogue_core.specs.Histories.{AreEditionsOf}
use Rattle.catalogue_core.specs.Walks.{holder_of}
use Rattle.catalogue_editions.specs.declared.edition.Edition.{Edition}
use Rattle.catalogue_editions.specs.declared.history_entry.HistoryEntry.{HistoryEntry}
use Rattle.catalogue_core.proofs.Holders.{one-holder}
use Rattle.catalogue_editions.specs.Ids.{has_contributor}

-- what is told of the one that is found
told-found : {X A : Type 0} (f : X → List A) (found : Option X) → option_map_or f found [] ≡ flat_map f (option_to_list found)
told-found f None = refl
told-found f (Some x) = sym (flat_map-cons f x [] ∙ append-nil (f x))

-- what is told of the editions that have a contributor, of which there is one at most
pub told-holder : {A : Type 0} (f : Edition → List A) (history : List HistoryEntry) (all : List Edition) (id : RecordId) (found : Option Edition)
    → AreEditionsOf history all → found ≡ holder_of all id → option_map_or f found [] ≡ flat_map f (filter (has_contributor id) all)
told-holder f history all id found are is =
    told-found f found ∙ ap (λ o. flat_map f (option_to_list o)) is ∙ ap (flat_map f) (sym (one-holder history all id are))
