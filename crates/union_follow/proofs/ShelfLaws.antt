-- Opened files, and the shelf to which they are given back.
use Rattle.std.proofs.Common.{◌≡◌, ℕ, zero, suc, ◌<◌, List, [], ◌∷◌, sym, ap, subst, ◌∙◌, arith}
use Rattle.std.specs.Prelude.{Option, Some, Ok, Err, IfSome, slice_get, IsTrue}
use Rattle.catalogue_editions.specs.declared.history_entry.HistoryEntry.{HistoryEntry}
use Rattle.library_batches.specs.declared.stop.Stop.{Stop}
use Rattle.library_batches.specs.declared.stop.Stop.TheVariants.{TooLong, Failed, Memory}
use Rattle.union_files.specs.Inputs.{AreFresh, OpenedState, file_of, files_of, inputs_of}
use Rattle.union_files.specs.Limits.{AreWithin}
use Rattle.union_files.specs.Limits.{Contents}
use Rattle.union_files.proofs.FileLaws.{Counts, flow}
use Rattle.union_files.proofs.InterleavingLaws.{unmapped-at}
use Rattle.union_io.specs.Causes.{Rose}
use Rattle.union_io.specs.Counts.{SameCounts, SameElsewhere}
use Rattle.union_io.specs.Names.{is_among}
use Rattle.union_files.specs.declared.reports.Reports.{Reports}
use Rattle.union_words.specs.Words.{LibraryFile}
use Rattle.union_follow.specs.Turning.{AreCalm, AreListed, AreTurnedFrom, AreUnread, HaltsAt, HaltsIn, RaisesAt, StopsIn}
use Rattle.union_follow.specs.declared.libraries.Halt.{Halt}

-- files that were opened and not read
pub fresh_unread : (files : Option Contents) (names : List (List ℕ)) (states : List OpenedState) → AreFresh files names states → AreUnread files states
fresh_unread files names [] fresh = tt
fresh_unread files names (s ∷ states) fresh = ((fresh.0.left, fresh.0.faults), fresh_unread files names states fresh.1)

pub fresh_listed : (files : Option Contents) (names : List (List ℕ)) (states : List OpenedState) → AreFresh files names states → AreListed names states
fresh_listed files names [] fresh = tt
fresh_listed files names (s ∷ states) fresh = (fresh.0.listed, fresh_listed files names states fresh.1)

-- the same files have the same names
pub listed_same : (names : List (List ℕ)) (states now : List OpenedState) → files_of now ≡ files_of states → AreListed names states
    → AreListed names now
listed_same names [] [] same listed = tt
listed_same names [] (t ∷ now) same listed = absurd (cc same)
listed_same names (s ∷ states) [] same listed = absurd (cc same)
listed_same names (s ∷ states) (t ∷ now) same listed =
    let head : file_of t ≡ file_of s = cc same in
    let rest : files_of now ≡ files_of states = cc same in
    let name : t.name ≡ s.name = ap (λ (file : LibraryFile). file.path) head in
    (subst (λ n. IsTrue (is_among n names)) (sym name) listed.0, listed_same names states now rest listed.1)

-- a file is given back, and then the others
pub raises_more : (s : OpenedState) (rest : List OpenedState) (a b c : Counts) → (0 < s.faults → Rose (a s.name) (b s.name))
    → SameElsewhere a b s.name → (s.faults ≡ 0 → SameCounts a b) → (AreCalm rest → SameCounts b c) → RaisesAt rest b c → RaisesAt (s ∷ rest) a c
raises_more s rest a b c raised others calm calmer later zero state fails at =
    let is : s ≡ state = cc at in
    let same : SameCounts b c = calmer fails.1 in
    subst (λ (t : OpenedState). Rose (a t.name) (c t.name) × SameElsewhere a c t.name) is (
      subst (Rose (a s.name)) (sym (same s.name)) (raised fails.0),
      (λ other differs. same other ∙ others other differs),
    )
raises_more s rest a b c raised others calm calmer later (suc place) state fails at =
    let same : SameCounts a b = calm fails.0 in
    let rose = later place state fails.1 at in (
      subst (λ n. Rose n (c state.name)) (same state.name) rose.0,
      (λ other differs. rose.1 other differs ∙ same other),
    )

pub calm_more : (s : OpenedState) (rest : List OpenedState) (a b c : Counts) → (s.faults ≡ 0 → SameCounts a b) → (AreCalm rest → SameCounts b c)
    → AreCalm (s ∷ rest) → SameCounts a c
calm_more s rest a b c calm calmer all = λ name. calmer all.1 name ∙ calm all.0 name

-- why the load stopped, when all files were given back
pub halts_returned : (stop : Stop) (place : ℕ) (file : LibraryFile) (told : Option Contents) (libraries : List LibraryFile) (now : List OpenedState)
    (a b : Counts) → StopsIn stop place file told libraries now → slice_get (files_of now) place ≡ Some file → (AreCalm now → SameCounts a b)
    → RaisesAt now a b → HaltsAt stop file libraries (flow told a b)
halts_returned Failed place file told libraries now a b stops at calm raises =
    let found = unmapped-at file_of now place file at in
    let name : found.0.name ≡ file.path = ap (λ (f : LibraryFile). f.path) found.2 in
    subst (λ path. Rose (a path) (b path) × SameElsewhere a b path) name (raises place found.0 stops found.1)
halts_returned TooLong place file told libraries now a b stops at calm raises = (calm stops.0, stops.1)
halts_returned Memory place file told libraries now a b stops at calm raises = calm stops

-- why the load stopped, at which library of the command
pub halts_at : (R : Contents → Type 0) (halt : Halt) (files : Option Contents) (before now : List OpenedState) (libraries : List LibraryFile) (a b : Counts)
    → HaltsIn {T = Unit {0}} (Err halt) 0 files before now R → files_of now ≡ files_of before → libraries ≡ files_of before
    → (AreCalm now → SameCounts a b) → RaisesAt now a b
    → (file : LibraryFile) × (slice_get libraries halt.place ≡ Some file) × HaltsAt halt.stop file libraries (flow files a b)
halts_at R halt files before now libraries a b halts same are calm raises =
    let place : halt.place ≡ halts.0 = omega (arith, halts.2) in
    let there : slice_get (files_of before) halt.place ≡ Some halts.1 = ap (slice_get (files_of before)) place ∙ halts.3 in
    let now_there : slice_get (files_of now) halts.0 ≡ Some halts.1 = ap (λ (fs : List LibraryFile). slice_get fs halts.0) same ∙ halts.3 in (
      halts.1,
      subst (λ (fs : List LibraryFile). slice_get fs halt.place ≡ Some halts.1) (sym are) there,
      subst (λ (fs : List LibraryFile). HaltsAt halt.stop halts.1 fs (flow files a b)) (sym are)
          (halts_returned halt.stop halts.0 halts.1 files (files_of before) now a b halts.4 now_there calm raises),
    )

-- what all the files came to, which are the libraries of the command
pub gathers_all : (files : Option Contents) (before now : List OpenedState) (libraries : List LibraryFile) (history after : List HistoryEntry)
    (told texts : Reports) → libraries ≡ files_of before → history ≡ []
    → HaltsIn {T = Unit {0}} (Ok tt) 0 files before now (λ contents. AreTurnedFrom contents 0 (files_of before) history after told texts)
    → IfSome files (λ contents. AreWithin contents (inputs_of libraries) × AreTurnedFrom contents 0 libraries [] after told texts)
gathers_all files before now libraries history after told texts are none halts =
    subst (λ (fs : List LibraryFile). IfSome files (λ contents. AreWithin contents (inputs_of fs) × AreTurnedFrom contents 0 fs [] after told texts)) (sym are)
    (subst (λ (h : List HistoryEntry). IfSome files (λ contents. AreWithin contents (inputs_of (files_of before)) × AreTurnedFrom contents 0 (files_of before) h after told texts)) none halts.1)
