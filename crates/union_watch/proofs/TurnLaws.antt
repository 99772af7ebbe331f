-- The lines on the turns of a history in which streams interleave stand for that history.
use Rattle.std.proofs.Common.{◌≡◌, ◌≢◌, ℕ, suc, ◌+◌, ◌<◌, ◌≤◌, ◌==◌, Bool, true, false, cond, List, [], ◌∷◌, ◌++◌, length, map, drop, get_or, zero, not, refl, sym, ap, subst, ◌∙◌, arith, inl, inr}
use Rattle.std.specs.Prelude.{IsTrue, slice_index_or, filter, nat_lt}
use Rattle.std.specs.List.{AllByRecursion, AllZip, list_all}
use Rattle.std.specs.Cmp.Lexicographic.{bytes_decides}
use Rattle.std.proofs.lemmas.Bool.Decides.{nat_tests}
use Rattle.std.proofs.lemmas.List.{get_or_past, length-map}
use Rattle.std.proofs.lemmas.Option.{slice_get_cases, slice_get-map, get_or_from_slice_get}
use Rattle.std.specs.Option.{option_map}
use Rattle.union_base.specs.Both.{both_true}
use Rattle.library_batches.specs.Streams.{Frame}
use Rattle.catalogue_editions.specs.declared.batch.Batch.{Batch}
use Rattle.catalogue_editions.specs.declared.history_entry.HistoryEntry.{HistoryEntry}
use Rattle.library_batches.specs.Batches.{IsBatchOf}
use Rattle.union_base.specs.Alike.{same_text}
use Rattle.union_files.specs.Deliveries.{Stream, AreDistinct, batches_of}
use Rattle.union_files.specs.Interleavings.{batches_under, IsInterleaving}
use Rattle.union_base.specs.LibraryCodes.{is_library_code}
use Rattle.union_watch.specs.Told.{Told}
use Rattle.union_watch.specs.WatchTexts.{watch_text}
use Rattle.union_watch.proofs.TextLaws.{named, AreCoded, named-same, places-named}
use Rattle.union_watch.specs.TurnLines.{TurnLine, turns_from, first_entry, without_first, dealt, place_of, written}

-- a number is itself
same_number : (n : ℕ) → (n == n) ≡ true
same_number n = grind (arith, nat_tests)

-- the batches under a number, with one entry more at the start
under-more : (n : ℕ) (entry : HistoryEntry) (history : List HistoryEntry)
    → batches_under n (entry ∷ history) ≡ cond (entry.pass == n) (entry.batch ∷ batches_under n history) (batches_under n history)
under-more n entry history =
    elim (entry.pass == n) as (λ b. map (λ (e : HistoryEntry). e.batch) (cond b (entry ∷ filter (λ (e : HistoryEntry). e.pass == n) history) (filter (λ (e : HistoryEntry). e.pass == n) history))
    ≡ cond b (entry.batch ∷ batches_under n history) (batches_under n history)) [ true ↦ refl | false ↦ refl ]

-- what is left of a list whose first element is dealt
rest-is : (b : Bool) (x : Batch) (xs ys : List Batch) → cond b (x ∷ xs) xs ≡ ys → xs ≡ cond b (drop 1 ys) ys
rest-is true x xs ys is = ap (drop 1) is
rest-is false x xs ys is = is

-- dealing streams out by the numbers of the turns gives the history back that has them
pub dealt-passes : (streams : ℕ → List Batch) (history : List HistoryEntry) → ((n : ℕ) → batches_under n history ≡ streams n)
    → dealt streams (map (λ entry. entry.pass) history) ≡ history
dealt-passes streams [] each = refl
dealt-passes streams (entry ∷ history) each =
    let more : (n : ℕ) → cond (entry.pass == n) (entry.batch ∷ batches_under n history) (batches_under n history) ≡ streams n
    = λ n. sym (under-more n entry history) ∙ each n in
    let here : streams entry.pass ≡ entry.batch ∷ batches_under entry.pass history
    = sym (more entry.pass) ∙ ap (λ b. cond b (entry.batch ∷ batches_under entry.pass history) (batches_under entry.pass history)) (same_number entry.pass) in
    let rest : dealt (without_first streams entry.pass) (map (λ (e : HistoryEntry). e.pass) history) ≡ history
    = dealt-passes (without_first streams entry.pass) history (λ n. rest-is (entry.pass == n) entry.batch (batches_under n history) (streams n) (more n)) in
    ap (λ (batches : List Batch). first_entry entry.pass batches ++ dealt (without_first streams entry.pass) (map (λ (e : HistoryEntry). e.pass) history)) here
    ∙ ap (λ (h : List HistoryEntry). entry ∷ h) rest

-- what holds of the batches under a number holds of each entry under it
head-of : (b : Bool) (P : Batch → Type 0) (x : Batch) (xs : List Batch) → b ≡ true → AllByRecursion P (cond b (x ∷ xs) xs) → P x
head-of true P x xs is all = all.0
head-of false P x xs is all = cc

rest-of : (b : Bool) (P : Batch → Type 0) (x : Batch) (xs : List Batch) → AllByRecursion P (cond b (x ∷ xs) xs) → AllByRecursion P xs
rest-of true P x xs all = all.1
rest-of false P x xs all = all

pub each-entry : (P : ℕ → Batch → Type 0) (history : List HistoryEntry) → ((n : ℕ) → AllByRecursion (P n) (batches_under n history))
    → AllByRecursion (λ entry. P entry.pass entry.batch) history
each-entry P [] all = tt
each-entry P (entry ∷ history) all =
    let more : (n : ℕ) → AllByRecursion (P n) (cond (entry.pass == n) (entry.batch ∷ batches_under n history) (batches_under n history))
    = λ n. subst (AllByRecursion (P n)) (under-more n entry history) (all n) in (
      head-of (entry.pass == entry.pass) (P entry.pass) entry.batch (batches_under entry.pass history) (same_number entry.pass) (more entry.pass),
      each-entry P history (λ n. rest-of (entry.pass == n) (P n) entry.batch (batches_under n history) (more n)),
    )

-- the batches of a stream are its library's
pub own-batches : (prefer : List (List ℕ)) (library : List ℕ) (blocks : List (List Frame)) (batches : List Batch)
    → AllZip (IsBatchOf prefer library) blocks batches
    → AllByRecursion (λ batch. batch.library ≡ library) batches
own-batches prefer library [] [] are = tt
own-batches prefer library [] (batch ∷ batches) are = absurd are
own-batches prefer library (block ∷ blocks) [] are = absurd are
own-batches prefer library (block ∷ blocks) (batch ∷ batches) are = (are.0.library_is, own-batches prefer library blocks batches are.1)

-- the place of a library that is named once
same-text : (text : List ℕ) → same_text text text ≡ true
same-text text = (bytes_decides text text).1 refl

apart-as : (b : Bool) (x y : List ℕ) → same_text x y ≡ b → x ≢ y → same_text x y ≡ false
apart-as true x y is differ = absurd (differ ((bytes_decides x y).0 is))
apart-as false x y is differ = is

apart : (x y : List ℕ) → x ≢ y → same_text x y ≡ false
apart x y differ = apart-as (same_text x y) x y refl differ

pub at-place : (P : List ℕ → Type 0) (texts : List (List ℕ)) (place : ℕ) → AllByRecursion P texts → place < length texts → P (get_or texts place [])
at-place P [] place all within = absurd (omega arith)
at-place P (text ∷ texts) zero all within = all.0
at-place P (text ∷ texts) (suc place) all within = at-place P texts place all.1 (omega arith)

pub place-at : (libraries : List (List ℕ)) (place : ℕ) → AreDistinct libraries → place < length libraries
    → place_of libraries (get_or libraries place []) ≡ place
place-at [] place distinct within = absurd (omega arith)
place-at (library ∷ libraries) zero distinct within = ap (λ b. cond (not b) (1 + place_of libraries library) 0) (same-text library)
place-at (library ∷ libraries) (suc place) distinct within =
    let later : place < length libraries = omega arith in
    let other = at-place (λ other. library ≢ other) libraries place distinct.0 later in
    ap (λ b. cond (not b) (1 + place_of libraries (get_or libraries place [])) 0) (apart (get_or libraries place []) library (λ same. other (sym same)))
    ∙ ap (λ n. 1 + n) (place-at libraries place distinct.1 later) ∙ omega arith

-- the lines' places are the turns' numbers, where each entry's library is that of its number
places-are : (libraries : List (List ℕ)) (turn : ℕ) (history : List HistoryEntry)
    → AllByRecursion (λ entry. place_of libraries entry.batch.library ≡ entry.pass) history
    → map (λ (line : TurnLine). place_of libraries line.library) (turns_from turn history) ≡ map (λ entry. entry.pass) history
places-are libraries turn [] all = refl
places-are libraries turn (entry ∷ history) all =
    ap (λ n. n ∷ map (λ (line : TurnLine). place_of libraries line.library) (turns_from (turn + 1) history)) all.0
    ∙ ap (λ (places : List ℕ). entry.pass ∷ places) (places-are libraries (turn + 1) history all.1)

-- the streams by their places: nothing after the last
abbrev pub stream_at : List (List Batch) → ℕ → List Batch
stream_at streams place = slice_index_or streams place []

-- no batch stands under a number that no turn has
none-under : (n most : ℕ) (history : List HistoryEntry) → IsTrue (list_all (λ entry. nat_lt entry.pass most) history) → most ≤ n
    → batches_under n history ≡ []
none-under n most [] below past = refl
none-under n most (entry ∷ history) below past =
    let parts = both_true (nat_lt entry.pass most) (list_all (λ (e : HistoryEntry). nat_lt e.pass most) history) below in
    let other : (entry.pass == n) ≡ false = grind (arith, nat_tests, parts.0, past) in
    under-more n entry history ∙ ap (λ b. cond b (entry.batch ∷ batches_under n history) (batches_under n history)) other
    ∙ none-under n most history parts.1 past

pub under-is : (streams : List (List Batch)) (history : List HistoryEntry) → IsInterleaving streams history → (n : ℕ)
    → batches_under n history ≡ stream_at streams n
under-is streams history interleaving n =
    elim ((slice_get_cases streams n).1) [
      | inl there ↦ interleaving.each n there.0 there.2 ∙ sym (get_or_from_slice_get streams n there.0 [] there.2)
      | inr past ↦ none-under n (length streams) history interleaving.numbers past.0 ∙ sym (get_or_past streams n [] past.0)
    ]

pub all-so : (P Q : Batch → Type 0) (batches : List Batch) → ((batch : Batch) → P batch → Q batch) → AllByRecursion P batches → AllByRecursion Q batches
all-so P Q [] follows all = tt
all-so P Q (batch ∷ batches) follows all = (follows batch all.0, all-so P Q batches follows all.1)

-- the batches of the stream at a place have the library of that place
own-at : (streams : List Stream) (n : ℕ) → AreDistinct (map (λ s. s.library) streams)
    → AllByRecursion (λ batch. place_of (map (λ (s : Stream). s.library) streams) batch.library ≡ n) (stream_at (map batches_of streams) n)
own-at streams n distinct =
    let libraries : List (List ℕ) = map (λ (s : Stream). s.library) streams in
    let OwnAt : List Batch → Type 0 = AllByRecursion (λ batch. place_of libraries batch.library ≡ n) in
    elim ((slice_get_cases streams n).1) [
      | inl there ↦
          let s = there.0 in
          let named : get_or libraries n [] ≡ s.library
          = get_or_from_slice_get libraries n s.library [] (slice_get-map (λ (s : Stream). s.library) streams n ∙ ap (option_map (λ (s : Stream). s.library)) there.2) in
          let its : stream_at (map batches_of streams) n ≡ s.batches
          = get_or_from_slice_get (map batches_of streams) n s.batches [] (slice_get-map batches_of streams n ∙ ap (option_map batches_of) there.2) in
          let within : n < length libraries = omega (arith, length-map streams (λ (s : Stream). s.library), there.1) in
          let placed : place_of libraries s.library ≡ n = sym (ap (place_of libraries) named) ∙ place-at libraries n distinct within in
          subst OwnAt (sym its) (all-so (λ batch. batch.library ≡ s.library) (λ batch. place_of libraries batch.library ≡ n) s.batches
          (λ batch is. ap (place_of libraries) is ∙ placed) (own-batches s.prefer s.library _ s.batches s.are))
      | inr past ↦ subst OwnAt (sym (get_or_past (map batches_of streams) n [] (omega (arith, length-map streams batches_of, past.0)))) tt
    ]

-- the lines on the turns of a history in which the streams interleave stand for that history
pub turns-written : (streams : List Stream) (history : List HistoryEntry) → AreDistinct (map (λ s. s.library) streams)
    → IsInterleaving (map batches_of streams) history
    → written (map (λ s. s.library) streams) (map batches_of streams) (turns_from 1 history) ≡ history
turns-written streams history distinct interleaving =
    let libraries : List (List ℕ) = map (λ (s : Stream). s.library) streams in
    let all : List (List Batch) = map batches_of streams in
    let under = under-is all history interleaving in
    let owned : AllByRecursion (λ entry. place_of libraries entry.batch.library ≡ entry.pass) history
    = each-entry (λ n batch. place_of libraries batch.library ≡ n) history
    (λ n. subst (AllByRecursion (λ batch. place_of libraries batch.library ≡ n)) (sym (under n)) (own-at streams n distinct)) in
    ap (dealt (stream_at all)) (places-are libraries 1 history owned) ∙ dealt-passes (stream_at all) history under

-- the batches of the stream at a place are of a library with a code
codes-at : (streams : List Stream) (n : ℕ) → AllByRecursion (λ code. IsTrue (is_library_code code)) (map (λ s. s.library) streams)
    → AllByRecursion (λ batch. IsTrue (is_library_code batch.library)) (stream_at (map batches_of streams) n)
codes-at streams n coded =
    let libraries : List (List ℕ) = map (λ (s : Stream). s.library) streams in
    let Coded : List Batch → Type 0 = AllByRecursion (λ batch. IsTrue (is_library_code batch.library)) in
    elim ((slice_get_cases streams n).1) [
      | inl there ↦
          let s = there.0 in
          let named : get_or libraries n [] ≡ s.library
          = get_or_from_slice_get libraries n s.library [] (slice_get-map (λ (s : Stream). s.library) streams n ∙ ap (option_map (λ (s : Stream). s.library)) there.2) in
          let its : stream_at (map batches_of streams) n ≡ s.batches
          = get_or_from_slice_get (map batches_of streams) n s.batches [] (slice_get-map batches_of streams n ∙ ap (option_map batches_of) there.2) in
          let within : n < length libraries = omega (arith, length-map streams (λ (s : Stream). s.library), there.1) in
          let code : IsTrue (is_library_code s.library)
          = subst (λ code. IsTrue (is_library_code code)) named (at-place (λ code. IsTrue (is_library_code code)) libraries n coded within) in
          subst Coded (sym its) (all-so (λ batch. batch.library ≡ s.library) (λ batch. IsTrue (is_library_code batch.library)) s.batches
          (λ batch is. subst (λ code. IsTrue (is_library_code code)) (sym is) code) (own-batches s.prefer s.library _ s.batches s.are))
      | inr past ↦ subst Coded (sym (get_or_past (map batches_of streams) n [] (omega (arith, length-map streams batches_of, past.0)))) tt
    ]

-- so are those of a history in which the streams interleave
coded-entries : (streams : List Stream) (history : List HistoryEntry)
    → AllByRecursion (λ code. IsTrue (is_library_code code)) (map (λ s. s.library) streams) → IsInterleaving (map batches_of streams) history
    → AreCoded history
coded-entries streams history coded interleaving =
    each-entry (λ n batch. IsTrue (is_library_code batch.library)) history
    (λ n. subst (AllByRecursion (λ batch. IsTrue (is_library_code batch.library))) (sym (under-is (map batches_of streams) history interleaving n))
    (codes-at streams n coded))

-- the text of `watch` has one history
pub text-is-history : (streams : List Stream) (one two : List HistoryEntry) (told other : List Told) → AreDistinct (map (λ s. s.library) streams)
    → AllByRecursion (λ code. IsTrue (is_library_code code)) (map (λ s. s.library) streams) → IsInterleaving (map batches_of streams) one
    → IsInterleaving (map batches_of streams) two → watch_text one told ≡ watch_text two other → one ≡ two
text-is-history streams one two told other distinct coded first second is =
    let libraries : List (List ℕ) = map (λ (s : Stream). s.library) streams in
    let all : List (List Batch) = map batches_of streams in
    let same : named one ≡ named two
    = named-same 1 one two told other (coded-entries streams one coded first) (coded-entries streams two coded second) is in
    sym (turns-written streams one distinct first)
    ∙ (ap (dealt (stream_at all)) (places-named libraries 1 one ∙ (ap (map (place_of libraries)) same ∙ sym (places-named libraries 1 two)))
    ∙ turns-written streams two distinct second)
