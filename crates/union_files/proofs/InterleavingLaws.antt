-- Whose batches the entries of a history are in which streams interleave.
use Rattle.std.proofs.Common.{◌≡◌, ◌≢◌, ℕ, zero, suc, ◌≤◌, ◌==◌, Bool, true, false, cond, List, [], ◌∷◌, length, map, refl, sym, ap, subst, ◌∙◌, arith, inl, inr}
use Rattle.std.specs.Prelude.{Some, None, IsTrue, slice_get, filter, nat_lt}
use Rattle.std.specs.List.{AllByRecursion, AllZip, list_all}
use Rattle.std.proofs.lemmas.Bool.Decides.{nat_tests}
use Rattle.std.proofs.lemmas.Option.{slice_get_cases, same_Some}
use Rattle.union_base.specs.Both.{both_true}
use Rattle.catalogue_editions.specs.declared.batch.Batch.{Batch}
use Rattle.catalogue_editions.specs.declared.history_entry.HistoryEntry.{HistoryEntry}
use Rattle.library_batches.specs.Batches.{IsBatchOf}
use Rattle.library_batches.specs.Streams.{Frame}
use Rattle.union_files.specs.Deliveries.{Stream, AreDistinct, batches_of}
use Rattle.union_files.specs.Interleavings.{batches_under, IsInterleaving}

-- ---- lists

pub each-at : {A : Type 0} (P : A → Type 0) (xs : List A) (n : ℕ) (x : A) → AllByRecursion P xs → slice_get xs n ≡ Some x → P x
each-at P [] n x all at = absurd (none_some at)
  where
    none_some : None ≡ Some x → ⊥
    none_some at = cc
each-at P (y ∷ xs) zero x all at = subst P (same_Some y x at) all.0
each-at P (y ∷ xs) (suc n) x all at = each-at P xs n x all.1 at

pub mapped-at : {A B : Type 0} (f : A → B) (xs : List A) (n : ℕ) (x : A) → slice_get xs n ≡ Some x → slice_get (map f xs) n ≡ Some (f x)
mapped-at f [] n x at = cc
mapped-at f (y ∷ xs) zero x at = ap (λ z. Some (f z)) (same_Some y x at)
mapped-at f (y ∷ xs) (suc n) x at = mapped-at f xs n x at

pub unmapped-at : {A B : Type 0} (f : A → B) (xs : List A) (n : ℕ) (y : B) → slice_get (map f xs) n ≡ Some y
    → (x : A) × (slice_get xs n ≡ Some x) × (f x ≡ y)
unmapped-at f [] n y at = absurd (none_some at)
  where
    none_some : None ≡ Some y → ⊥
    none_some at = cc
unmapped-at f (x ∷ xs) zero y at = (x, refl, same_Some (f x) y at)
unmapped-at f (x ∷ xs) (suc n) y at = unmapped-at f xs n y at

-- different places, different codes
pub apart-at : {A : Type 0} (code : A → List ℕ) (xs : List A) (i j : ℕ) (x y : A) → AreDistinct (map code xs) → slice_get xs i ≡ Some x
    → slice_get xs j ≡ Some y → i ≢ j → code x ≢ code y
apart-at code [] i j x y distinct at_i at_j differ = absurd (none_some at_i)
  where
    none_some : None ≡ Some x → ⊥
    none_some at = cc
apart-at code (first ∷ xs) zero zero x y distinct at_i at_j differ = absurd (differ refl)
apart-at code (first ∷ xs) zero (suc j) x y distinct at_i at_j differ =
    subst (λ z. code z ≢ code y) (same_Some first x at_i)
    (each-at (λ other. code first ≢ other) (map code xs) j (code y) distinct.0 (mapped-at code xs j y at_j))
apart-at code (first ∷ xs) (suc i) zero x y distinct at_i at_j differ =
    subst (λ z. code x ≢ code z) (same_Some first y at_j)
    (λ same. each-at (λ other. code first ≢ other) (map code xs) i (code x) distinct.0 (mapped-at code xs i x at_i) (sym same))
apart-at code (first ∷ xs) (suc i) (suc j) x y distinct at_i at_j differ =
    apart-at code xs i j x y distinct.1 at_i at_j (λ same. differ (ap suc same))

-- ---- the batches under a number

same-number : (n : ℕ) → (n == n) ≡ true
same-number n = grind (arith, nat_tests)

-- with one entry more at the start
pub under-more : (n : ℕ) (entry : HistoryEntry) (history : List HistoryEntry)
    → batches_under n (entry ∷ history) ≡ cond (entry.pass == n) (entry.batch ∷ batches_under n history) (batches_under n history)
under-more n entry history =
    elim (entry.pass == n) as (λ b. map (λ (e : HistoryEntry). e.batch) (cond b (entry ∷ filter (λ (e : HistoryEntry). e.pass == n) history) (filter (λ (e : HistoryEntry). e.pass == n) history))
    ≡ cond b (entry.batch ∷ batches_under n history) (batches_under n history)) [ true ↦ refl | false ↦ refl ]

head-of : (b : Bool) (P : Batch → Type 0) (x : Batch) (xs : List Batch) → b ≡ true → AllByRecursion P (cond b (x ∷ xs) xs) → P x
head-of true P x xs is all = all.0
head-of false P x xs is all = cc

rest-of : (b : Bool) (P : Batch → Type 0) (x : Batch) (xs : List Batch) → AllByRecursion P (cond b (x ∷ xs) xs) → AllByRecursion P xs
rest-of true P x xs all = all.1
rest-of false P x xs all = all

-- what holds of the batches under each number holds of the batch of each entry
pub each-entry : (P : ℕ → Batch → Type 0) (history : List HistoryEntry) → ((n : ℕ) → AllByRecursion (P n) (batches_under n history))
    → AllByRecursion (λ entry. P entry.pass entry.batch) history
each-entry P [] all = tt
each-entry P (entry ∷ history) all =
    let more : (n : ℕ) → AllByRecursion (P n) (cond (entry.pass == n) (entry.batch ∷ batches_under n history) (batches_under n history))
    = λ n. subst (AllByRecursion (P n)) (under-more n entry history) (all n) in (
      head-of (entry.pass == entry.pass) (P entry.pass) entry.batch (batches_under entry.pass history) (same-number entry.pass) (more entry.pass),
      each-entry P history (λ n. rest-of (entry.pass == n) (P n) entry.batch (batches_under n history) (more n)),
    )

-- no batch is under a number that no entry has
pub none-under : (n most : ℕ) (history : List HistoryEntry) → IsTrue (list_all (λ entry. nat_lt entry.pass most) history) → most ≤ n
    → batches_under n history ≡ []
none-under n most [] below past = refl
none-under n most (entry ∷ history) below past =
    let parts = both_true (nat_lt entry.pass most) (list_all (λ (e : HistoryEntry). nat_lt e.pass most) history) below in
    let other : (entry.pass == n) ≡ false = grind (arith, nat_tests, parts.0, past) in
    under-more n entry history ∙ ap (λ b. cond b (entry.batch ∷ batches_under n history) (batches_under n history)) other
    ∙ none-under n most history parts.1 past

-- ---- whose an entry is

-- the batches of a stream are its library's
pub own-batches : (prefer : List (List ℕ)) (library : List ℕ) (blocks : List (List Frame)) (batches : List Batch)
    → AllZip (IsBatchOf prefer library) blocks batches → AllByRecursion (λ batch. batch.library ≡ library) batches
own-batches prefer library [] [] are = tt
own-batches prefer library [] (batch ∷ batches) are = absurd are
own-batches prefer library (block ∷ blocks) [] are = absurd are
own-batches prefer library (block ∷ blocks) (batch ∷ batches) are = (are.0.library_is, own-batches prefer library blocks batches are.1)

-- the batch is of the library of the stream at that place
pub record IsOf (streams : List Stream) (place : ℕ) (batch : Batch) : Type 0 where
  pub stream : Stream
  pub at : slice_get streams place ≡ Some stream
  pub library : batch.library ≡ stream.library

all-of : (streams : List Stream) (place : ℕ) (s : Stream) (batches : List Batch) → slice_get streams place ≡ Some s
    → AllByRecursion (λ batch. batch.library ≡ s.library) batches → AllByRecursion (IsOf streams place) batches
all-of streams place s [] at own = tt
all-of streams place s (batch ∷ batches) at own =
    (record { stream = s; at = at; library = own.0 }, all-of streams place s batches at own.1)

pub entries-of : (streams : List Stream) (history : List HistoryEntry) → IsInterleaving (map batches_of streams) history
    → AllByRecursion (λ entry. IsOf streams entry.pass entry.batch) history
entries-of streams history interleaving = each-entry (IsOf streams) history here
  where
    here : (n : ℕ) → AllByRecursion (IsOf streams n) (batches_under n history)
    here n =
        elim ((slice_get_cases (map batches_of streams) n).1) [
          | inl there ↦
              let s = unmapped-at batches_of streams n there.0 there.2 in
              subst (AllByRecursion (IsOf streams n)) (s.2 ∙ sym (interleaving.each n there.0 there.2))
              (all-of streams n s.0 s.0.batches s.1 (own-batches s.0.prefer s.0.library _ s.0.batches s.0.are))
          | inr past ↦ subst (AllByRecursion (IsOf streams n)) (sym (none-under n (length (map batches_of streams)) history interleaving.numbers past.0)) tt
        ]
