-- Files that are loaded one after the other.
use Rattle.std.proofs.Common.{◌≡◌, ℕ, suc, ◌+◌, ◌<◌, ◌≤◌, true, false, cond, List, [], ◌∷◌, length, refl, ap, subst, ◌∙◌, arith, add-one}
use Rattle.std.specs.Prelude.{Option, Some, None, IfSome, Result, Ok, Err}
use Rattle.std.proofs.lemmas.Bool.Decides.{nat_tests}
use Rattle.catalogue_editions.specs.declared.history_entry.HistoryEntry.{HistoryEntry}
use Rattle.iso2709_frame.specs.Frames.{frames}
use Rattle.library_batches.specs.declared.stop.Stop.{Stop}
use Rattle.library_batches.specs.declared.stop.Stop.TheVariants.{TooLong, Failed, Memory}
use Rattle.library_stream.specs.declared.frame_reader.TheConstants.{LARGEST_SOURCE}
use Rattle.union_files.specs.Inputs.{OpenedState, file_of, files_of, input_of, inputs_of}
use Rattle.union_io.specs.Files.{told_file}
use Rattle.union_files.specs.Limits.{Contents, is_overfull, first_overfull, AreWithin}
use Rattle.union_files.specs.Readings.{IsStop, Reads}
use Rattle.union_files.proofs.LimitLaws.{on_both}
use Rattle.union_files.specs.declared.reports.Reports.{Reports}
use Rattle.union_words.specs.Words.{LibraryFile}
use Rattle.union_follow.specs.Turning.{AreCalm, AreTurnedFrom, AreUnread, HaltsIn, IsTurned, StopsIn}
use Rattle.union_follow.specs.declared.libraries.Halt.{Halt}

-- a file that fits is not overfull
fits_whole : (contents : Contents) (file : LibraryFile) → length (contents file.path) ≤ LARGEST_SOURCE → is_overfull contents (input_of file) ≡ false
fits_whole contents file fits = grind (arith, nat_tests, fits)

within_more : (contents : Contents) (file : LibraryFile) (rest : List LibraryFile) → is_overfull contents (input_of file) ≡ false
    → AreWithin contents (inputs_of rest) → AreWithin contents (inputs_of (file ∷ rest))
within_more contents file rest fits later = ap (λ b. cond b (Some (input_of file)) (first_overfull contents (inputs_of rest))) fits ∙ later

overfull_more : (contents : Contents) (file other : LibraryFile) (rest : List LibraryFile) → is_overfull contents (input_of file) ≡ false
    → first_overfull contents (inputs_of rest) ≡ Some (input_of other) → first_overfull contents (inputs_of (file ∷ rest)) ≡ Some (input_of other)
overfull_more contents file other rest fits later = ap (λ b. cond b (Some (input_of file)) (first_overfull contents (inputs_of rest))) fits ∙ later

-- a file that does not fit is the first overfull one
overfull_first : (contents : Contents) (file : LibraryFile) (rest : List LibraryFile) → LARGEST_SOURCE < length (contents file.path)
    → first_overfull contents (inputs_of (file ∷ rest)) ≡ Some (input_of file)
overfull_first contents file rest long =
    let over : is_overfull contents (input_of file) ≡ true = grind (arith, nat_tests, long) in
    ap (λ b. cond b (Some (input_of file)) (first_overfull contents (inputs_of rest))) over

-- unread files are calm
unread_calm : (told : Option Contents) (states : List OpenedState) → AreUnread told states → AreCalm states
unread_calm told [] unread = tt
unread_calm told (state ∷ states) unread = (unread.0.1, unread_calm told states unread.1)

stops_more : (stop : Stop) (place : ℕ) (file : LibraryFile) (told : Option Contents) (s s' : OpenedState) (rest rest' : List OpenedState) → s'.faults ≡ 0
    → IfSome told (λ contents. is_overfull contents (input_of (file_of s)) ≡ false) → StopsIn stop place file told (files_of rest) rest'
    → StopsIn stop (suc place) file told (files_of (s ∷ rest)) (s' ∷ rest')
stops_more Failed place file told s s' rest rest' calm fits stops = (calm, stops)
stops_more TooLong place file told s s' rest rest' calm fits stops =
    ((calm, stops.0), on_both told (λ contents p q. overfull_more contents (file_of s) file (files_of rest) p q) fits stops.1)
stops_more Memory place file told s s' rest rest' calm fits stops = (calm, stops)

-- a file that was read, and then the others
pub halts_more : (later : Result (Unit {0}) Halt) (first : ℕ) (told : Option Contents) (s s' : OpenedState) (rest rest' : List OpenedState)
    (P Q R : Contents → Type 0) → ((contents : Contents) → P contents → Q contents → R contents) → s'.faults ≡ 0
    → IfSome told (λ contents. (length (contents s.name) ≤ LARGEST_SOURCE) × P contents)
    → HaltsIn later (suc first) told rest rest' Q → HaltsIn later first told (s ∷ rest) (s' ∷ rest') R
halts_more (Ok done) first told s s' rest rest' P Q R both calm here behind = (
  (calm, behind.0),
  on_both told (λ contents p q. (within_more contents (file_of s) (files_of rest) (fits_whole contents (file_of s) p.0) q.0, both contents p.1 q.1)) here behind.1,
)
halts_more (Err halt) first told s s' rest rest' P Q R both calm here behind = (
  suc behind.0,
  behind.1,
  omega (arith, behind.2),
  behind.3,
  stops_more halt.stop behind.0 behind.1 told s s' rest rest' calm (on_both told (λ contents p q. fits_whole contents (file_of s) p.0) here here) behind.4,
)

-- a file that was not read to its end, before others
pub halts_here : (halt : Halt) (first : ℕ) (told : Option Contents) (s s' : OpenedState) (rest : List OpenedState) (R : Contents → Type 0) → halt.place ≡ first
    → AreUnread told rest → s.left ≡ told_file told s.name
    → IsStop LARGEST_SOURCE halt.stop (record { told = s.left; before = s.faults; after = s'.faults }) → s.faults ≡ 0
    → HaltsIn {T = Unit {0}} (Err halt) first told (s ∷ rest) (s' ∷ rest) R
halts_here halt first told s s' rest R is unread left stop fresh =
    (0, file_of s, omega (arith, is), refl, stops_here halt.stop stop)
  where
    too_long : (told : Option Contents) → IfSome (told_file told s.name) (λ bytes. LARGEST_SOURCE < length bytes)
        → IfSome told (λ contents. first_overfull contents (inputs_of (file_of s ∷ files_of rest)) ≡ Some (input_of (file_of s)))
    too_long None long = tt
    too_long (Some contents) long = overfull_first contents (file_of s) (files_of rest) long

    stops_here : (stop : Stop) → IsStop LARGEST_SOURCE stop (record { told = s.left; before = s.faults; after = s'.faults })
        → StopsIn stop 0 (file_of s) told (files_of (s ∷ rest)) (s' ∷ rest)
    stops_here Failed failed = (omega (arith, failed, fresh), unread_calm told rest unread)
    stops_here TooLong long = (
      (long.1 ∙ fresh, unread_calm told rest unread),
      too_long told (subst (λ bytes. IfSome bytes (λ bytes. LARGEST_SOURCE < length bytes)) left long.0),
    )
    stops_here Memory same = (same ∙ fresh, unread_calm told rest unread)

-- no file is left
pub halts_end : (first : ℕ) (told : Option Contents) (R : Contents → Type 0) → ((contents : Contents) → R contents)
    → HaltsIn {T = Unit {0}} (Ok tt) first told [] [] R
halts_end first None R holds = (tt, tt)
halts_end first (Some contents) R holds = (tt, (refl, holds contents))

-- what was read of a file of which nothing had been read before
pub read_whole : (P : List ℕ → Type 0) (told : Option Contents) (name : List ℕ) (left : Option (List ℕ)) → left ≡ told_file told name → IfSome left P
    → IfSome told (λ contents. P (contents name))
read_whole P None name left is holds = tt
read_whole P (Some contents) name left is holds = subst (λ bytes. IfSome bytes P) is holds

-- a file was read to its end and loaded, and then the others
pub halts_read : (later : Result (Unit {0}) Halt) (place : ℕ) (told : Option Contents) (s s' : OpenedState) (rest rest' : List OpenedState)
    (history middle now : List HistoryEntry) (before between after : Reports) → AreUnread told (s ∷ rest)
    → Reads {T = Unit {0}} LARGEST_SOURCE (Ok (tt {0})) (record { told = s.left; before = s.faults; after = s'.faults })
    (λ done bytes. IsTurned place s.library (frames bytes) history middle before between)
    → (AreUnread told rest
    → HaltsIn later (place + 1) told rest rest' (λ contents. AreTurnedFrom contents (place + 1) (files_of rest) middle now between after))
    → HaltsIn later place told (s ∷ rest) (s' ∷ rest') (λ contents. AreTurnedFrom contents place (files_of (s ∷ rest)) history now before after)
halts_read later place told s s' rest rest' history middle now before between after unread reads behind =
    halts_more later place told s s' rest rest'
    (λ contents. IsTurned place s.library (frames (contents s.name)) history middle before between)
    (λ contents. AreTurnedFrom contents (suc place) (files_of rest) middle now between after)
    (λ contents. AreTurnedFrom contents place (files_of (s ∷ rest)) history now before after)
    (λ contents one more. (middle, between, one, more))
    (reads.0 ∙ unread.0.1)
    (read_whole (λ bytes. (length bytes ≤ LARGEST_SOURCE) × IsTurned place s.library (frames bytes) history middle before between) told s.name s.left unread.0.0 reads.1)
    (subst (λ k. HaltsIn later k told rest rest' (λ contents. AreTurnedFrom contents k (files_of rest) middle now between after)) (add-one place) (behind unread.1))

-- a file was not read to its end, and the others were not read
pub halts_stopped : (stop : Stop) (place : ℕ) (told : Option Contents) (s s' : OpenedState) (rest : List OpenedState) (R : Contents → Type 0)
    → AreUnread told (s ∷ rest) → IsStop LARGEST_SOURCE stop (record { told = s.left; before = s.faults; after = s'.faults })
    → HaltsIn {T = Unit {0}} (Err (record { place = place; stop = stop })) place told (s ∷ rest) (s' ∷ rest) R
halts_stopped stop place told s s' rest R unread stopped =
    halts_here (record { place = place; stop = stop }) place told s s' rest R refl unread.1 unread.0.0 stopped unread.0.1
