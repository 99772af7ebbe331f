-- What came of the files of libraries makes the union of them.
use Rattle.std.proofs.Common.{◌≡◌, ℕ, zero, suc, ◌+◌, ◌<◌, true, false, cond, ◌==◌, List, [], ◌∷◌, ◌++◌, length, refl, sym, ap, subst, ◌∙◌, arith}
use Rattle.std.specs.Prelude.{map, filter, nat_lt, Some, None, slice_get}
use Rattle.std.specs.List.{list_all, list_any, flat_map, AllByRecursion}
use Rattle.std.proofs.lemmas.Bool.Decides.{nat_tests}
use Rattle.std.proofs.lemmas.Option.{same_Some}
use Rattle.authority_names.specs.Leads.{Table}
use Rattle.catalogue_editions.specs.declared.batch.Batch.{Batch}
use Rattle.catalogue_editions.specs.declared.history_entry.HistoryEntry.{HistoryEntry}
use Rattle.catalogue_lock.specs.History.{changes_of}
use Rattle.catalogue_lock.specs.Rule.{EndedOk}
use Rattle.iso2709_frame.specs.Frames.{frames}
use Rattle.library_batches.specs.Outcomes.{found_in}
use Rattle.catalogue_core.specs.Entries.{entries_of}
use Rattle.library_batches.specs.Tallies.{found}
use Rattle.union_base.specs.Both.{true_both}
use Rattle.library_batches.specs.Reports.{report_text}
use Rattle.union_files.proofs.ListLaws.{each_place, element, first_of_both}
use Rattle.union_files.proofs.OwnEntryLaws.{IsApart, found-apart}
use Rattle.union_files.specs.Limits.{Contents}
use Rattle.union_files.specs.Deliveries.{Delivery, delivery, codes_of, AreDistinct, has_refused, Stream, delivered, batches_of, reports_of}
use Rattle.union_files.specs.Inputs.{deliveries}
use Rattle.union_files.proofs.InterleavingLaws.{each-at, apart-at, own-batches}
use Rattle.union_files.specs.Interleavings.{batches_under, IsInterleaving}
use Rattle.union_files.specs.Courses.{Course, file_of_course, delivery_of, ended_of, AreNumbered, IsWhole, course_text}
use Rattle.union_files.specs.Unions.{HasUnited}
use Rattle.union_files.specs.declared.loaded.Loaded.{Loaded}

abbrev Entries : Type 0
Entries = List (ℕ × Batch)

-- ---- lists

unmapped : {A B : Type 0} (P : B → Type 0) (f : A → B) (xs : List A) → AllByRecursion P (map f xs) → AllByRecursion (λ x. P (f x)) xs
unmapped P f [] all = tt
unmapped P f (x ∷ xs) all = (all.0, unmapped P f xs all.1)

same_length : {A B : Type 0} (f : A → B) (xs : List A) → length (map f xs) ≡ length xs
same_length f [] = refl
same_length f (x ∷ xs) = ap suc (same_length f xs)

is-equal : (m n : ℕ) → m ≡ n → (m == n) ≡ true
is-equal m n h = grind (arith, nat_tests)

is-below : (m n : ℕ) → m < n → nat_lt m n ≡ true
is-below m n h = grind (arith, nat_tests)

-- ---- numbers are places

number_at : (k : ℕ) (courses : List Course) (n : ℕ) (c : Course) → AreNumbered k courses → slice_get courses n ≡ Some c → c.number ≡ k + n
number_at k [] n c numbers at = cc
number_at k (first ∷ courses) zero c numbers at =
    ap (λ (c : Course). c.number) (sym (same_Some first c at)) ∙ (numbers.0 ∙ omega arith)
number_at k (first ∷ courses) (suc n) c numbers at = number_at (suc k) courses n c numbers.1 at ∙ omega arith

place_is : (courses : List Course) (n : ℕ) (c : Course) → AreNumbered 0 courses → slice_get courses n ≡ Some c → c.number ≡ n
place_is courses n c numbers at = number_at 0 courses n c numbers at ∙ omega arith

-- ---- whose an entry is

-- the batch is of the library at the place that is the entry's number
pub record IsOwned (courses : List Course) (entry : ℕ × Batch) : Type 0 where
  pub course : Course
  pub at : slice_get courses entry.0 ≡ Some course
  pub library : entry.1.library ≡ course.library

-- entries of that number are of the library
own_entries : (library : List ℕ) (number : ℕ) (entries : Entries) → AllByRecursion (λ batch. batch.library ≡ library) (changes_of number entries)
    → AllByRecursion (λ entry. entry.0 ≡ number → entry.1.library ≡ library) entries
own_entries library number [] own = tt
own_entries library number (entry ∷ entries) own =
    elim (entry.0 == number) as (λ t. (entry.0 ≡ number → t ≡ true)
    → AllByRecursion (λ batch. batch.library ≡ library) (map (λ (e : ℕ × Batch). e.1) (cond t (entry ∷ filter (λ (e : ℕ × Batch). e.0 == number) entries) (filter (λ (e : ℕ × Batch). e.0 == number) entries)))
    → AllByRecursion (λ entry. entry.0 ≡ number → entry.1.library ≡ library) (entry ∷ entries)) [
      | true ↦ λ tested own. ((λ is. own.0), own_entries library number entries own.1)
      | false ↦ λ tested own. ((λ is. absurd (false_true (tested is))), own_entries library number entries own)
    ] (is-equal entry.0 number) own
  where
    false_true : false ≡ true → ⊥
    false_true e = cc

owned_entries : (courses : List Course) (entries : Entries)
    → ((n : ℕ) (c : Course) → slice_get courses n ≡ Some c → AllByRecursion (λ entry. entry.0 ≡ n → entry.1.library ≡ c.library) entries)
    → AllByRecursion (λ entry. entry.0 < length courses) entries → AllByRecursion (IsOwned courses) entries
owned_entries courses [] own below = tt
owned_entries courses (entry ∷ entries) own below =
    let here = element courses entry.0 below.0 in (
      record { course = here.0; at = here.1; library = (own entry.0 here.0 here.1).0 refl },
      owned_entries courses entries (λ n c at. (own n c at).1) below.1,
    )

-- so of each course they are apart
apart_entries : (courses : List Course) (n : ℕ) (c : Course) (entries : Entries) → AreDistinct (map (λ (c : Course). c.library) courses)
    → slice_get courses n ≡ Some c → AllByRecursion (IsOwned courses) entries → AllByRecursion (IsApart c.library n) entries
apart_entries courses n c [] distinct at owned = tt
apart_entries courses n c (entry ∷ entries) distinct at owned = (
  record {
    own = λ is. owned.0.library ∙ ap (λ (c : Course). c.library) (same_Some owned.0.course c (sym owned.0.at ∙ (ap (slice_get courses) is ∙ at)));
    other = λ differ same. apart-at (λ (c : Course). c.library) courses entry.0 n owned.0.course c distinct owned.0.at at differ (sym owned.0.library ∙ same);
  },
  apart_entries courses n c entries distinct at owned.1,
)

-- ---- the union

-- the streams of whole courses
abbrev pub streams_of : (contents : Contents) (courses : List Course) → AllByRecursion (IsWhole contents) courses → List Stream
streams_of contents [] whole = []
streams_of contents (c ∷ courses) whole =
    record { prefer = c.prefer; library = c.library; frames = frames (contents c.path); batches = c.own; are = whole.0 } ∷ streams_of contents courses whole.1

streams-delivered : (contents : Contents) (courses : List Course) (whole : AllByRecursion (IsWhole contents) courses)
    → map delivered (streams_of contents courses whole) ≡ map (delivery_of contents) courses
streams-delivered contents [] whole = refl
streams-delivered contents (c ∷ courses) whole =
    ap (λ (all : List Delivery). delivery_of contents c ∷ all) (streams-delivered contents courses whole.1)

streams-batches : (contents : Contents) (courses : List Course) (whole : AllByRecursion (IsWhole contents) courses)
    → map batches_of (streams_of contents courses whole) ≡ map (λ (c : Course). c.own) courses
streams-batches contents [] whole = refl
streams-batches contents (c ∷ courses) whole = ap (λ (all : List (List Batch)). c.own ∷ all) (streams-batches contents courses whole.1)

streams-reports : (contents : Contents) (courses : List Course) (whole : AllByRecursion (IsWhole contents) courses)
    → AllByRecursion (λ c. found c.seen c.number ≡ found_in [] c.own) courses
    → flat_map (course_text contents) courses ≡ reports_of (streams_of contents courses whole)
streams-reports contents [] whole brought = refl
streams-reports contents (c ∷ courses) whole brought =
    ap (λ outcomes. report_text c.library (frames (contents c.path)) outcomes ++ flat_map (course_text contents) courses) brought.0
    ∙ ap (λ (rest : List ℕ). report_text c.library (frames (contents c.path)) (found_in [] c.own) ++ rest) (streams-reports contents courses whole.1 brought.1)

-- what the files of these courses deliver
pub delivered-files : (prefer : List (List ℕ)) (contents : Contents) (courses : List Course) → AllByRecursion (λ c. c.prefer ≡ prefer) courses
    → map (delivery_of contents) courses ≡ deliveries prefer contents (map file_of_course courses)
delivered-files prefer contents [] all = refl
delivered-files prefer contents (c ∷ courses) all =
    ap (λ p. delivery p c.library (frames (contents c.path)) ∷ map (delivery_of contents) courses) all.0
    ∙ ap (λ (more : List Delivery). delivery prefer c.library (frames (contents c.path)) ∷ more) (delivered-files prefer contents courses all.1)

codes-same : (contents : Contents) (courses : List Course)
    → codes_of (map (delivery_of contents) courses) ≡ map (λ (c : Course). c.library) courses
codes-same contents [] = refl
codes-same contents (c ∷ courses) = ap (λ (codes : List (List ℕ)). c.library ∷ codes) (codes-same contents courses)

under-entries : (n : ℕ) (history : List HistoryEntry) → batches_under n history ≡ changes_of n (entries_of history)
under-entries n [] = refl
under-entries n (entry ∷ history) =
    elim (entry.pass == n) as (λ t. map (λ (e : HistoryEntry). e.batch) (cond t (entry ∷ filter (λ (e : HistoryEntry). e.pass == n) history) (filter (λ (e : HistoryEntry). e.pass == n) history))
    ≡ map (λ (e : ℕ × Batch). e.1) (cond t ((entry.pass, entry.batch) ∷ filter (λ (e : ℕ × Batch). e.0 == n) (entries_of history)) (filter (λ (e : ℕ × Batch). e.0 == n) (entries_of history))))
    [ true ↦ ap (λ (rest : List Batch). entry.batch ∷ rest) (under-entries n history) | false ↦ under-entries n history ]

numbers-below : (k : ℕ) (history : List HistoryEntry) → AllByRecursion (λ entry. entry.0 < k) (entries_of history)
    → list_all (λ entry. nat_lt entry.pass k) history ≡ true
numbers-below k [] below = refl
numbers-below k (entry ∷ history) below =
    true_both (nat_lt entry.pass k) (list_all (λ (entry : HistoryEntry). nat_lt entry.pass k) history) (is-below entry.pass k below.0) (numbers-below k history below.1)

-- each course's batches stand under its place
course_at : (courses : List Course) (n : ℕ) (batches : List Batch) → slice_get (map (λ (c : Course). c.own) courses) n ≡ Some batches
    → (c : Course) × (slice_get courses n ≡ Some c) × (c.own ≡ batches)
course_at [] n batches at = absurd (none_some at)
  where
    none_some : None ≡ Some batches → ⊥
    none_some at = cc
course_at (c ∷ courses) zero batches at = (c, refl, same_Some c.own batches at)
course_at (c ∷ courses) (suc n) batches at = course_at courses n batches at

pub united : (names : Table) (contents : Contents) (courses : List Course) (loaded : Loaded) → loaded.catalogue.names ≡ names → AreNumbered 0 courses
    → AllByRecursion (EndedOk (entries_of loaded.catalogue.history)) (map ended_of courses)
    → AllByRecursion (λ (e : ℕ × Batch). e.0 < length courses) (entries_of loaded.catalogue.history)
    → AreDistinct (codes_of (map (delivery_of contents) courses)) → AllByRecursion (IsWhole contents) courses
    → loaded.reports.items ≡ flat_map (course_text contents) courses
    → loaded.refused ≡ list_any has_refused (map (delivery_of contents) courses)
    → HasUnited names (map (delivery_of contents) courses) loaded
united names contents courses loaded names_are numbers ended low distinct whole reports refused =
    let entries = entries_of loaded.catalogue.history in
    let codes = map (λ (c : Course). c.library) courses in
    let apart : AreDistinct codes = subst AreDistinct (codes-same contents courses) distinct in
    let ends : AllByRecursion (λ c. EndedOk entries (ended_of c)) courses =
    unmapped (EndedOk entries) ended_of courses ended in
    let owned : AllByRecursion (IsOwned courses) entries = owned_entries courses entries
    (λ n c at. own_entries c.library n entries
    (subst (λ m. AllByRecursion (λ batch. batch.library ≡ c.library) (changes_of m entries)) (place_is courses n c numbers at)
    (subst (AllByRecursion (λ batch. batch.library ≡ c.library)) (sym (each-at (λ c. EndedOk entries (ended_of c)) courses n c ends at).own)
    (own-batches c.prefer c.library _ c.own (each-at (IsWhole contents) courses n c whole at)))))
    low in
    let brought : AllByRecursion (λ c. found c.seen c.number ≡ found_in [] c.own) courses = each_place (λ c. found c.seen c.number ≡ found_in [] c.own) courses
    (λ n c at.
    let end : EndedOk entries (ended_of c) = each-at (λ c. EndedOk entries (ended_of c)) courses n c ends at in
    let is : c.number ≡ n = place_is courses n c numbers at in
    let seen : AllByRecursion (IsOwned courses) c.seen =
    first_of_both (IsOwned courses) c.seen end.seen.0 (subst (AllByRecursion (IsOwned courses)) (sym end.seen.1) owned) in
    found-apart c.library c.number c.seen (subst (λ m. AllByRecursion (IsApart c.library m) c.seen) (sym is) (apart_entries courses n c c.seen apart at seen))
    ∙ ap (found_in []) end.own_seen) in
    record {
      names_are = names_are;
      refused = refused;
      union = record {
        streams = streams_of contents courses whole;
        delivered = streams-delivered contents courses whole;
        interleaving = subst (λ streams. IsInterleaving streams loaded.catalogue.history) (sym (streams-batches contents courses whole)) (record {
          numbers = subst (λ k. list_all (λ entry. nat_lt entry.pass k) loaded.catalogue.history ≡ true) (sym (same_length (λ (c : Course). c.own) courses))
              (numbers-below (length courses) loaded.catalogue.history low);
          each = λ n batches at.
              let c = course_at courses n batches at in
              let end : EndedOk entries (ended_of c.0) = each-at (λ c. EndedOk entries (ended_of c)) courses n c.0 ends c.1 in
              under-entries n loaded.catalogue.history
              ∙ (ap (λ m. changes_of m entries) (sym (place_is courses n c.0 numbers c.1)) ∙ (end.own ∙ c.2));
        });
        reports = reports ∙ streams-reports contents courses whole brought;
      };
    }
