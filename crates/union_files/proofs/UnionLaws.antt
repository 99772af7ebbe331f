-- Two unions of the same deliveries have the same editions.
use Rattle.std.proofs.Common.{◌≡◌, ◌≢◌, ℕ, zero, suc, ◌==◌, true, false, cond, List, [], ◌∷◌, length, map, refl, sym, ap, subst, ◌∙◌, arith, inl, inr, eq-eqb}
use Rattle.std.specs.Prelude.{◌⊎◌, Some, None, Contains, slice_get, filter, fold, nat_eq}
use Rattle.std.specs.Map.{values_of}
use Rattle.std.specs.List.{AllByRecursion}
use Rattle.std.specs.Cmp.Lexicographic.{pointwise, bytes_decides}
use Rattle.std.proofs.lemmas.Bool.Decides.{nat_tests}
use Rattle.std.proofs.lemmas.Option.{same_Some, slice_get_within, slice_get_read, get_or_from_slice_get}
use Rattle.union_base.specs.declared.record_id.RecordId.{RecordId}
use Rattle.catalogue_editions.specs.Resolutions.{IsOrderedResolution}
use Rattle.catalogue_editions.specs.declared.edition.Edition.{Edition}
use Rattle.catalogue_core.specs.Histories.{MapOf, at_id, after_batch, current}
use Rattle.catalogue_editions.specs.declared.history_entry.HistoryEntry.{HistoryEntry}
use Rattle.catalogue_core.proofs.SameEditions.{same_editions_of}
use Rattle.library_batches.specs.Batches.{AreBatches}
use Rattle.library_batches.proofs.SameLaws.{one-batches}
use Rattle.union_files.specs.Deliveries.{Delivery, Stream, delivered, codes_of, AreDistinct, batches_of}
use Rattle.union_files.specs.Interleavings.{batches_under, IsInterleaving}
use Rattle.union_files.specs.Unions.{IsUnion, AreSameDeliveries}
use Rattle.union_files.proofs.InterleavingLaws.{mapped-at, unmapped-at, apart-at, IsOf, entries-of}
use Rattle.union_files.proofs.OwnLaws.{IsSorted, HaveSameOwn, own-after_batch, batch-own, apart-after_ops, sorted-batch, one-map}

-- the current records after a history, from these on
abbrev after : MapOf Edition → List HistoryEntry → MapOf Edition
after all history = fold (λ all entry. after_batch all entry.batch) all history

sorted-after : (all : MapOf Edition) (history : List HistoryEntry) → IsSorted all → IsSorted (after all history)
sorted-after all [] up = up
sorted-after all (entry ∷ history) up = sorted-after (after_batch all entry.batch) history (sorted-batch all entry.batch up)

-- ---- a library's records in a history

-- an entry is of the library where it has that number, and of another where it has not
record IsApart (library : List ℕ) (number : ℕ) (entry : HistoryEntry) : Type 0 where
  own : entry.pass ≡ number → entry.batch.library ≡ library
  other : entry.pass ≢ number → entry.batch.library ≢ library

equal-is : (m n : ℕ) → (m == n) ≡ true → m ≡ n
equal-is m n h = grind (arith, nat_tests)

-- the library's records are those that its own batches leave current
own-under : (library : List ℕ) (number : ℕ) (a b : MapOf Edition) (history : List HistoryEntry) → AllByRecursion (IsApart library number) history
    → HaveSameOwn library a b → HaveSameOwn library (fold after_batch a (batches_under number history)) (after b history)
own-under library number a b [] all same = same
own-under library number a b (entry ∷ history) all same =
    elim (entry.pass == number) as (λ t. (entry.pass == number) ≡ t
    → HaveSameOwn library (fold after_batch a (map (λ (e : HistoryEntry). e.batch) (cond t (entry ∷ filter (λ (e : HistoryEntry). e.pass == number) history) (filter (λ (e : HistoryEntry). e.pass == number) history))))
    (after (after_batch b entry.batch) history)) [
      | true ↦ λ is. own-under library number (after_batch a entry.batch) (after_batch b entry.batch) history all.1
          (own-after_batch library a b entry.batch (all.0.own (equal-is entry.pass number is)) same)
      | false ↦ λ is.
          let differ : entry.pass ≢ number = λ same. (let clash : true ≡ false = sym (eq-eqb entry.pass number same) ∙ is in cc) in
          own-under library number a (after_batch b entry.batch) history all.1
          (apart-after_ops library entry.batch.library a b entry.batch.ops (all.0.other differ) (batch-own entry.batch) same)
    ] refl

-- a library of which there is no batch has none
own-none : (library : List ℕ) (a b : MapOf Edition) (history : List HistoryEntry) → AllByRecursion (λ entry. entry.batch.library ≢ library) history
    → HaveSameOwn library a b → HaveSameOwn library a (after b history)
own-none library a b [] all same = same
own-none library a b (entry ∷ history) all same =
    own-none library a (after_batch b entry.batch) history all.1
    (apart-after_ops library entry.batch.library a b entry.batch.ops all.0 (batch-own entry.batch) same)

none-yet : (library : List ℕ) → HaveSameOwn library [] []
none-yet library = record { sorted = (tt, tt); same = λ id is. refl }

each-so : {A : Type 0} (P Q : A → Type 0) (xs : List A) → ((x : A) → P x → Q x) → AllByRecursion P xs → AllByRecursion Q xs
each-so P Q [] follows all = tt
each-so P Q (x ∷ xs) follows all = (follows x all.0, each-so P Q xs follows all.1)

module _ (streams : List Stream) (history : List HistoryEntry) (distinct : AreDistinct (map (λ s. s.library) streams))
    (interleaving : IsInterleaving (map batches_of streams) history) where
  apart : (n : ℕ) (s : Stream) → slice_get streams n ≡ Some s → AllByRecursion (IsApart s.library n) history
  apart n s at =
      each-so (λ (entry : HistoryEntry). IsOf streams entry.pass entry.batch) (IsApart s.library n) history (λ entry of. record {
        own = λ is. of.library ∙ ap (λ (s : Stream). s.library) (same_Some of.stream s (sym of.at ∙ (ap (slice_get streams) is ∙ at)));
        other = λ differ same. apart-at (λ (s : Stream). s.library) streams entry.pass n of.stream s distinct of.at at differ (sym of.library ∙ same);
      }) (entries-of streams history interleaving)

  -- the current records of the library of a stream are those that its batches leave current
  pub at-own : (n : ℕ) (s : Stream) → slice_get streams n ≡ Some s → (id : RecordId) → id.library ≡ s.library
      → at_id (current history) id ≡ at_id (fold after_batch [] s.batches) id
  at-own n s at id is =
      sym ((own-under s.library n [] [] history (apart n s at) (none-yet s.library)).same id is)
      ∙ ap (λ batches. at_id (fold after_batch [] batches) id) (interleaving.each n s.batches (mapped-at batches_of streams n s at))

  -- and another library has none
  pub at-none : (id : RecordId) → ((n : ℕ) (s : Stream) → slice_get streams n ≡ Some s → s.library ≢ id.library)
      → at_id (current history) id ≡ None
  at-none id none =
      sym ((own-none id.library [] [] history
      (each-so (λ (entry : HistoryEntry). IsOf streams entry.pass entry.batch) (λ entry. entry.batch.library ≢ id.library) history
      (λ entry of same. none entry.pass of.stream of.at (sym of.library ∙ same)) (entries-of streams history interleaving)) (none-yet id.library)).same id refl)

-- ---- two unions

-- the stream of that library, or there is none
record HasLibrary (library : List ℕ) (streams : List Stream) : Type 0 where
  place : ℕ
  stream : Stream
  at : slice_get streams place ≡ Some stream
  is : stream.library ≡ library

abbrev Lacks : List ℕ → List Stream → Type 0
Lacks library streams = (n : ℕ) (s : Stream) → slice_get streams n ≡ Some s → s.library ≢ library

sought : (library : List ℕ) (streams : List Stream) → HasLibrary library streams ⊎ Lacks library streams
sought library [] = inr (λ n s at. absurd (none_some s at))
  where
    none_some : (s : Stream) → None ≡ Some s → ⊥
    none_some s at = cc
sought library (first ∷ streams) =
    elim (pointwise nat_eq first.library library) as (λ b. pointwise nat_eq first.library library ≡ b → HasLibrary library (first ∷ streams) ⊎ Lacks library (first ∷ streams)) [
      | true ↦ λ same. inl (record { place = 0; stream = first; at = refl; is = (bytes_decides first.library library).0 same })
      | false ↦ λ differs. later (λ same. (let clash : true ≡ false = sym ((bytes_decides first.library library).1 same) ∙ differs in cc)) (sought library streams)
    ] refl
  where
    later : first.library ≢ library → HasLibrary library streams ⊎ Lacks library streams → HasLibrary library (first ∷ streams) ⊎ Lacks library (first ∷ streams)
    later differs (inl has) = inl (record { place = suc has.place; stream = has.stream; at = has.at; is = has.is })
    later differs (inr lacks) = inr passed
      where
        passed : Lacks library (first ∷ streams)
        passed zero s at = subst (λ (t : Stream). t.library ≢ library) (same_Some first s at) differs
        passed (suc n) s at = lacks n s at

-- a stream of one union is one of the other
record IsMet (s : Stream) (others : List Stream) : Type 0 where
  place : ℕ
  stream : Stream
  at : slice_get others place ≡ Some stream
  same : delivered stream ≡ delivered s

met : (all other : List Delivery) (streams others : List Stream) → map delivered streams ≡ all → map delivered others ≡ other
    → ((d : Delivery) → Contains all d → Contains other d) → (n : ℕ) (s : Stream) → slice_get streams n ≡ Some s → IsMet s others
met all other streams others is_all is_other there n s at =
    let d = delivered s in
    let here : slice_get all n ≡ Some d = subst (λ list. slice_get list n ≡ Some d) is_all (mapped-at delivered streams n s at) in
    let found = there d (n, slice_get_within all n d here, get_or_from_slice_get all n d d here) in
    let placed : slice_get other found.0 ≡ Some d = slice_get_read other (length other) found.0 d refl found.1 (sym found.2) in
    let stream = unmapped-at delivered others found.0 d (subst (λ list. slice_get list found.0 ≡ Some d) (sym is_other) placed) in
    record { place = found.0; stream = stream.0; at = stream.1; same = stream.2 }

-- the same delivery has the same batches
same-batches : (s t : Stream) → delivered t ≡ delivered s → t.batches ≡ s.batches
same-batches s t same =
    one-batches s.prefer s.library s.frames t.batches s.batches
    (subst (λ (d : Delivery). AreBatches d.prefer d.library d.frames t.batches) same t.are) s.are

codes-are : (streams : List Stream) → codes_of (map delivered streams) ≡ map (λ s. s.library) streams
codes-are [] = refl
codes-are (s ∷ streams) = ap (λ (codes : List (List ℕ)). s.library ∷ codes) (codes-are streams)

-- two unions of the same deliveries leave the same records current
pub same-records : (all other : List Delivery) (streams others : List Stream) (one two : List Edition) → AreDistinct (codes_of all)
    → AreDistinct (codes_of other) → AreSameDeliveries all other → (p : IsUnion all streams one) (q : IsUnion other others two)
    → current p.history ≡ current q.history
same-records all other streams others one two distinct distinct_too same p q =
    let first : AreDistinct (map (λ s. s.library) streams)
    = subst AreDistinct (ap codes_of (sym p.delivered) ∙ codes-are streams) distinct in
    let second : AreDistinct (map (λ s. s.library) others)
    = subst AreDistinct (ap codes_of (sym q.delivered) ∙ codes-are others) distinct_too in
    let under : (id : RecordId) → at_id (current p.history) id ≡ at_id (current q.history) id = λ id. elim (sought id.library streams) [
      | inl has ↦
          let m = met all other streams others p.delivered q.delivered same.there has.place has.stream has.at in
          at-own streams p.history first p.interleaving has.place has.stream has.at id (sym has.is)
          ∙ (ap (λ batches. at_id (fold after_batch [] batches) id) (sym (same-batches has.stream m.stream m.same))
          ∙ sym (at-own others q.history second q.interleaving m.place m.stream m.at id (sym (ap (λ (d : Delivery). d.library) m.same ∙ has.is))))
      | inr lacks ↦
          at-none streams p.history first p.interleaving id lacks
          ∙ sym (at-none others q.history second q.interleaving id (λ n t at is.
          let m = met other all others streams q.delivered p.delivered same.back n t at in
          lacks m.place m.stream m.at (ap (λ (d : Delivery). d.library) m.same ∙ is)))
    ] in
    one-map (current p.history) (current q.history) (sorted-after [] p.history tt) (sorted-after [] q.history tt) under

pub one-union : (all other : List Delivery) (streams others : List Stream) (one two : List Edition) → AreDistinct (codes_of all)
    → AreDistinct (codes_of other) → AreSameDeliveries all other → IsUnion all streams one → IsUnion other others two → one ≡ two
one-union all other streams others one two distinct distinct_too same p q =
    let same_map = same-records all other streams others one two distinct distinct_too same p q in
    same_editions_of q.history one two (subst (λ map. IsOrderedResolution (values_of map) one) same_map p.resolved) q.resolved
