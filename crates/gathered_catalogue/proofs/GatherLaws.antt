-- The current records are collected from the table of places.
use Rattle.std.proofs.Common.{◌≡◌, ℕ, ◌↔◌, List, [], ◌∷◌, ◌++◌, Contains, refl, sym, ap, subst, ◌∙◌, inl, inr, arith}
use Rattle.std.specs.Prelude.{◌⊎◌, Option, Some, None, filter_map, nat_eq}
use Rattle.std.specs.Option.{option_map, option_map_or}
use Rattle.std.specs.Ordering.{nat_cmp}
use Rattle.std.specs.List.{IsDistinct}
use Rattle.std.specs.List.Sorted.{IsStrictlySortedBy}
use Rattle.std.specs.Cmp.{eq_by_cmp_equiv}
use Rattle.std.proofs.lemmas.Map.Keys.{IsDistinct-from_sorted}
use Rattle.std.specs.Cmp.Lexicographic.{pointwise, slice_cmp, nat_list_cmp_total, nat_list_eq_equiv, same_text}
use Rattle.std.specs.BTreeMap.{is_at}
use Rattle.std.specs.Map.{keys_of, lookup, values_of}
use Rattle.std.proofs.lemmas.Map.Views.{lookup-from_Contains, Contains-from_lookup}
use Rattle.std.proofs.lemmas.List.Elements.{Contains-append_left, Contains-append_right, Contains-append_cases}
use Rattle.union_base.specs.declared.record_id.RecordId.{RecordId}
use Rattle.merge_laws.specs.Resolution.{member}
use Rattle.merge_laws.proofs.Places.{Contains-head, Contains-tail, Contains-cases}
use Rattle.merge_laws.proofs.Resolutions.{IsDominated-refl, IsResolution-through}
use Rattle.record_homes.specs.declared.place.Place.{Place}
use Rattle.record_homes.proofs.MapLaws.{id-of_value, value-of_id}
use Rattle.record_homes.proofs.TableLaws.{one-library}
use Rattle.catalogue_editions.specs.JoinLaws.{edition_join_laws}
use Rattle.catalogue_editions.specs.MatchLaws.{edition_match_laws}
use Rattle.catalogue_editions.specs.Resolutions.{IsOrderedResolution}
use Rattle.catalogue_editions.specs.declared.batch.Batch.{Batch}
use Rattle.catalogue_editions.specs.declared.edition.Edition.{Edition}
use Rattle.catalogue_editions.specs.declared.history_entry.HistoryEntry.{HistoryEntry}
use Rattle.catalogue_editions.proofs.MappedLaws.{mapped-from_member, member-from_mapped}
use Rattle.turn_plans.specs.Histories.{at_id, current, bases, AreEditionsOf}
use Rattle.turn_plans.specs.Keeping.{batches, loaded_at}
use Rattle.turn_plans.proofs.TurnLaws.{ordered-current}
use Rattle.gathered_catalogue.specs.Tables.{Rows, Shelf, Libraries, row_at, place_at}
use Rattle.gathered_catalogue.specs.Following.{AreCurrent}
use Rattle.gathered_catalogue.specs.Gathering.{GainsLoads}

-- ---- one library

-- what was made of something
from-mapped : {A B : Type 0} (f : A → B) (o : Option A) (y : B) → option_map f o ≡ Some y → (x : A) × (o ≡ Some x) × (f x ≡ y)
from-mapped f None y is = absurd cc
from-mapped f (Some x) y is = (x, refl, cc)

value-of : (rows : Rows) (control : List ℕ) (place : Place) → Contains rows (control, place) → Contains (values_of rows) place
value-of [] control place (k, kl, e) = absurd (omega arith)
value-of (row ∷ rows) control place c =
    elim (Contains-cases row rows (control, place) c) [
      | inl here ↦ subst (Contains (row.1 ∷ values_of rows)) (ap (λ (r : List ℕ × Place). r.1) here) (Contains-head row.1 (values_of rows))
      | inr later ↦ Contains-tail row.1 (values_of rows) place (value-of rows control place later)
    ]

row-of : (rows : Rows) (place : Place) → Contains (values_of rows) place → (control : List ℕ) × Contains rows (control, place)
row-of [] place (k, kl, e) = absurd (omega arith)
row-of (row ∷ rows) place c =
    elim (Contains-cases row.1 (values_of rows) place c) [
      | inl here ↦ (row.0, subst (λ p. Contains (row ∷ rows) (row.0, p)) here (Contains-head row rows))
      | inr later ↦ (let (control, there) = row-of rows place later in (control, Contains-tail row rows (control, place) there))
    ]

pub gains : (all : List Batch) (rows : Rows) (old new : List Edition) → IsDistinct (pointwise nat_eq) (keys_of rows) → new ≡ old ++ filter_map (loaded_at all) (values_of rows) → GainsLoads all rows old new
gains all rows old new once is = record {
  kept = λ e c. subst (λ xs. Contains xs e) (sym is) (Contains-append_left old came e c);
  every = λ control place e at loads.
      subst (λ xs. Contains xs e) (sym is)
      (Contains-append_right old came e
      (mapped-from_member (loaded_at all) (values_of rows) place e
      (value-of rows control place (Contains-from_lookup (λ a b h. same_text a b (sym h)) control place rows at)) loads));
  only = λ e c. elim (Contains-append_cases old came e (subst (λ xs. Contains xs e) is c)) [
    | inl before ↦ inl before
    | inr later ↦
        (let (place, stands, loads) = member-from_mapped (loaded_at all) (values_of rows) e later in
        let (control, row) = row-of rows place stands in
        inr (control, place, lookup-from_Contains nat_list_eq_equiv control place rows once row, loads))
  ];
}
  where
    came : List Edition
    came = filter_map (loaded_at all) (values_of rows)

-- ---- all libraries

-- the records of some libraries are collected, and those of the rest are to come
pub record GathersOn (all : List Batch) (libraries rest : Libraries) (records : List Edition) : Type 0 where
  pub inside : (l : List ℕ × Shelf) → Contains rest l → Contains libraries l
  pub every : (l : List ℕ × Shelf) → Contains libraries l
      → Contains rest l ⊎ ((control : List ℕ) (place : Place) (e : Edition) → row_at l.1.rows control ≡ Some place → loaded_at all place ≡ Some e → Contains records e)
  pub only : (e : Edition) → Contains records e
      → (l : List ℕ × Shelf) × Contains libraries l × ((control : List ℕ) × (place : Place) × (row_at l.1.rows control ≡ Some place) × (loaded_at all place ≡ Some e))

pub gathers-begin : (all : List Batch) (libraries rest : Libraries) (records : List Edition) → rest ≡ libraries → records ≡ [] → GathersOn all libraries rest records
gathers-begin all libraries rest records is none = record {
  inside = λ l c. subst (λ (ls : Libraries). Contains ls l) is c;
  every = λ l c. inl (subst (λ (ls : Libraries). Contains ls l) (sym is) c);
  only = λ e c. absurd (nothing (subst (λ (es : List Edition). Contains es e) none c));
}
  where
    nothing : {A : Type 0} {x : A} → Contains [] x → ⊥
    nothing (k, kl, e) = omega arith

pub gathers-next : (all : List Batch) (libraries rest : Libraries) (records : List Edition) → GathersOn all libraries rest records
    → (l : List ℕ × Shelf) (rest' : Libraries) → rest ≡ l ∷ rest' → (records' : List Edition) → GainsLoads all l.1.rows records records'
    → GathersOn all libraries rest' records'
gathers-next all libraries rest records g l rest' first records' gained = record {
  inside = λ m c. g.inside m (subst (λ (ls : Libraries). Contains ls m) (sym first) (Contains-tail l rest' m c));
  every = λ m c. elim (g.every m c) [
    | inl later ↦ elim (Contains-cases l rest' m (subst (λ (ls : Libraries). Contains ls m) first later)) [
      | inl here ↦ inr (λ control place e at loads. gained.every control place e (ap (λ (k : List ℕ × Shelf). row_at k.1.rows control) here ∙ at) loads)
      | inr still ↦ inl still
    ]
    | inr done ↦ inr (λ control place e at loads. gained.kept e (done control place e at loads))
  ];
  only = λ e c. elim (gained.only e c) [
    | inl before ↦ g.only e before
    | inr mine ↦ (l, g.inside l (subst (λ (ls : Libraries). Contains ls l) (sym first) (Contains-head l rest')), mine)
  ];
}

-- each shelf is found under its library
pub shelf-found : (libraries : Libraries) → IsStrictlySortedBy (slice_cmp nat_cmp) (keys_of libraries) → (l : List ℕ × Shelf) → Contains libraries l → lookup (is_at (slice_cmp nat_cmp l.0)) libraries ≡ Some l.1
shelf-found libraries up l c = lookup-from_Contains (eq_by_cmp_equiv nat_list_cmp_total) l.0 l.1 libraries (IsDistinct-from_sorted (slice_cmp nat_cmp) (keys_of libraries) up) c

-- what was collected are the current records
module _ (history : List HistoryEntry) (libraries : Libraries) (known : AreCurrent history libraries)
    (found : (l : List ℕ × Shelf) → Contains libraries l → lookup (is_at (slice_cmp nat_cmp l.0)) libraries ≡ Some l.1)
    (records : List Edition) (g : GathersOn (batches history) libraries [] records) where
  there : (e : Edition) → Contains records e → Contains (bases history) e
  there e c =
      let (l, stands, (control, place, at, loads)) = g.only e c in
      let id : RecordId = record { library = l.0; control = control } in
      let here : place_at libraries id ≡ Some place = ap (λ (o : Option Shelf). row_at (option_map_or (λ (shelf : Shelf). shelf.rows) o []) control) (found l stands) ∙ at in
      let one : option_map Some (at_id (current history) id) ≡ Some (Some e) = sym (known.found id) ∙ ap (option_map (loaded_at (batches history))) here ∙ ap Some loads in
      let (e', at', same) = from-mapped Some (at_id (current history) id) (Some e) one in
      let same' : e' ≡ e = cc in
      value-of_id (current history) id e (at' ∙ ap Some same')

  -- a library whose record is found has a shelf
  shelf-of : (id : RecordId) (place : Place) → place_at libraries id ≡ Some place → (shelf : Shelf) × (lookup (is_at (slice_cmp nat_cmp id.library)) libraries ≡ Some shelf) × (row_at shelf.rows id.control ≡ Some place)
  shelf-of id place at = given (lookup (is_at (slice_cmp nat_cmp id.library)) libraries) refl at
    where
      given : (o : Option Shelf) → lookup (is_at (slice_cmp nat_cmp id.library)) libraries ≡ o → row_at (option_map_or (λ (shelf : Shelf). shelf.rows) o []) id.control ≡ Some place
          → (shelf : Shelf) × (lookup (is_at (slice_cmp nat_cmp id.library)) libraries ≡ Some shelf) × (row_at shelf.rows id.control ≡ Some place)
      given None is h = absurd cc
      given (Some shelf) is h = (shelf, is, h)

  back : (e : Edition) → Contains (bases history) e → Contains records e
  back e c =
      let (id, at) = id-of_value (current history) e (ordered-current history) c in
      let (place, here, loads) = from-mapped (loaded_at (batches history)) (place_at libraries id) (Some e) (known.found id ∙ ap (option_map Some) at) in
      let (shelf, stands, row) = shelf-of id place here in
      elim (g.every (id.library, shelf) (Contains-from_lookup (λ a b h. one-library a b h) id.library shelf libraries stands)) [
        | inl (k, kl, none) ↦ absurd (omega arith)
        | inr each ↦ each id.control place e row loads
      ]

  pub gathers-all : (e : Edition) → Contains records e ↔ Contains (bases history) e
  gathers-all e = (there e, back e)

-- lists with the same members resolve alike
pub ordered-members : (list other editions : List Edition) → ((e : Edition) → Contains list e ↔ Contains other e) → IsOrderedResolution list editions → IsOrderedResolution other editions
ordered-members list other editions same r = record {
  resolved = IsResolution-through edition_join_laws edition_match_laws other list editions
      (λ y c. member ((same y).0 c))
      (λ x c. (x, (same x).1 c, IsDominated-refl edition_join_laws edition_match_laws x))
      r.resolved;
  ascending = r.ascending;
}

-- what resolves the records that were collected are the editions of the history
pub editions-from : (history : List HistoryEntry) (records editions : List Edition) → ((e : Edition) → Contains records e ↔ Contains (bases history) e) → IsOrderedResolution records editions
    → (told : List HistoryEntry) → history ≡ told → AreEditionsOf told editions
editions-from history records editions members r told is = subst (λ turns. AreEditionsOf turns editions) is (ordered-members records (bases history) editions members r)
