-- Places of loaded editions, under ids, as more batches come.
use Rattle.std.proofs.Common.{◌≡◌, ℕ, zero, suc, Bool, true, false, cond, List, [], ◌∷◌, ◌++◌, length, refl, ap, ◌∙◌}
use Rattle.std.specs.Prelude.{Option, Some, slice_get}
use Rattle.std.specs.Option.{option_map}
use Rattle.std.specs.Map.{lookup}
use Rattle.union_base.specs.declared.record_id.RecordId.{RecordId}
use Rattle.turn_plans.specs.Histories.{MapOf}
use Rattle.turn_plans.specs.Keeping.{batches, loaded_at, map_values, StandFor}
use Rattle.catalogue_editions.specs.declared.history_entry.HistoryEntry.{HistoryEntry}
use Rattle.catalogue_editions.specs.declared.edition.Edition.{Edition}
use Rattle.catalogue_editions.specs.declared.batch.Batch.{Batch}
use Rattle.record_homes.specs.declared.place.Place.{Place}

-- what f makes of the values of a map
pub lookup-values : {X Y : Type 0} (f : X → Y) (all : MapOf X) (test : RecordId → Bool) → lookup test (map_values f all) ≡ option_map f (lookup test all)
lookup-values f [] test = refl
lookup-values f (e ∷ es) test =
    elim (test e.0) as (λ r. cond r (Some (f e.1)) (lookup test (map_values f es)) ≡ option_map f (cond r (Some e.1) (lookup test es))) [
      | true ↦ refl
      | false ↦ lookup-values f es test
    ]

-- the batch after those before it
pub batch-last : (before : List Batch) (batch : Batch) → slice_get (before ++ batch ∷ []) (length before) ≡ Some batch
batch-last [] batch = refl
batch-last (b ∷ before) batch = batch-last before batch

-- the places of editions stay, as more batches come
loads-grown : (all more : List Batch) (turn op : ℕ) (e : Edition) → loaded_at all (record { turn = turn; op = op }) ≡ Some e
    → loaded_at (all ++ more) (record { turn = turn; op = op }) ≡ Some e
loads-grown [] more turn op e h = cc
loads-grown (b ∷ all) more zero op e h = h
loads-grown (b ∷ all) more (suc n) op e h = loads-grown all more n op e h

stand-values : (all more : List Batch) (places : MapOf Place) (editions : MapOf Edition) → map_values (loaded_at all) places ≡ map_values Some editions
    → map_values (loaded_at (all ++ more)) places ≡ map_values Some editions
stand-values all more [] editions h = h
stand-values all more (p ∷ places) [] h = cc
stand-values all more (p ∷ places) (q ∷ editions) h =
    let first : ◌≡◌ {A = RecordId × Option Edition} (p.0, loaded_at all p.1) (q.0, Some q.1) = cc in
    let rest : map_values (loaded_at all) places ≡ map_values Some editions = cc in
    let load : loaded_at all p.1 ≡ Some q.1 = λ i. (first i).1 in
    let id : p.0 ≡ q.0 = λ i. (first i).0 in
    let load' : loaded_at (all ++ more) p.1 ≡ Some q.1 = loads-grown all more p.1.turn p.1.op q.1 load in
    let here : ◌≡◌ {A = RecordId × Option Edition} (p.0, loaded_at (all ++ more) p.1) (q.0, Some q.1) = λ i. (id i, load' i) in
    ap (λ (pair : RecordId × Option Edition). pair ∷ map_values (loaded_at (all ++ more)) places) here
    ∙ ap (λ (pairs : MapOf (Option Edition)). (q.0, Some q.1) ∷ pairs) (stand-values all more places editions rest)

pub stand-grown : (all more : List Batch) (places next : MapOf Place) (editions : MapOf Edition) → next ≡ places → StandFor all places editions → StandFor (all ++ more) next editions
stand-grown all more places next editions same s = record {
  loads = ap (map_values (loaded_at (all ++ more))) same ∙ stand-values all more places editions s.loads;
}

pub length-batches : (history : List HistoryEntry) → length (batches history) ≡ length history
length-batches [] = refl
length-batches (turn ∷ history) = ap (λ n. suc n) (length-batches history)
