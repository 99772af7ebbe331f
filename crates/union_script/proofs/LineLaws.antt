-- What one line does.
use Rattle.std.proofs.Common.{◌≡◌, ℕ, ◌≤◌, Bool, true, false, cond, List, [], ◌∷◌, length, inl, inr, refl, sym, ap, subst, ◌∙◌}
use Rattle.std.specs.Prelude.{Option, Some, None, IfSome, Result, Ok, Err, ◌||◌, ◌⊎◌}
use Rattle.std.proofs.KnownBytes.{Appends-nil}
use Rattle.catalogue_editions.specs.declared.history_entry.HistoryEntry.{HistoryEntry}
use Rattle.union_io.specs.Causes.{Rose}
use Rattle.union_io.specs.Counts.{SameCounts, SameElsewhere}
use Rattle.union_words.specs.Flows.{ShelfFlow, Outflow, InputFile, FailsAt}
use Rattle.union_words.specs.ScriptLines.{ScriptLine, Load, Notices}
use Rattle.union_words.specs.Words.{LibraryFile}
use Rattle.union_words.specs.declared.input.Input.{Input}
use Rattle.union_words.specs.declared.input.Input.TheVariants.{Library}
use Rattle.union_words.specs.declared.status.Status.{Status}
use Rattle.union_words.specs.declared.status.Status.TheVariants.{Done, DoneWithRefusals, Usage, OpenFault, ReadFault, WriteFault, TooLong, Memory}
use Rattle.union_script.specs.Inputs.{files_loaded}
use Rattle.union_files.specs.Limits.{limit_of, AreWithin, Contents}
use Rattle.union_script.specs.Lines.{WritesFirst, StopsLoading, FailsUnder, LinesStop, LinesRun, Says}
use Rattle.union_files.specs.Readings.{StopsAt}
use Rattle.union_script.specs.Texts.{Writes, is_refused}
use Rattle.union_files.proofs.FileLaws.{Counts, flow}
use Rattle.union_script.proofs.StopLaws.{Known, outflow}
use Rattle.union_script.proofs.TextLaws.{text_of_one, front_none}
use Rattle.union_files.proofs.LimitLaws.{not_over, on_files, on_all}

-- the line writes that text, the file that it loads is not too long, and so much is refused
pub record Does (contents : Contents) (line : ScriptLine) (history now : List HistoryEntry) (text : List ℕ) (told : Bool) : Type 0 where
  pub within : AreWithin contents (files_loaded (line ∷ []))
  pub writes : Writes contents line history text now
  pub refused : told ≡ is_refused contents line

or_false : (b : Bool) → (b || false) ≡ b
or_false true = refl
or_false false = refl

-- a line whose text was written, or not to its end
pub says_line : (result : Result Bool Status) (line : ScriptLine) (history now : List HistoryEntry) (text : List ℕ) (told : Bool) (files : Option Contents)
    (a b : Counts) (out : Outflow) → SameCounts a b → IfSome files (λ contents. Does contents line history now text told) → Says result text told out
    → LinesRun result (line ∷ []) history now (flow files a b) out
says_line (Ok refused) line history now text told files a b out same does says = (
  same,
  says.1,
  on_files files (λ contents done. record {
    within = done.within;
    refused = says.0 ∙ done.refused ∙ sym (or_false (is_refused contents line));
    text = text;
    writes = text_of_one contents line history now text done.writes;
    written = says.2;
  }) does,
)
says_line (Err WriteFault) line history now text told files a b out same does says = (
  same,
  says.0,
  on_files files (λ contents done. record {
    first = line ∷ [];
    others = [];
    parts = refl;
    text = text;
    now = now;
    writes = text_of_one contents line history now text done.writes;
    written = says.1;
  }) does,
)
says_line (Err Memory) line history now text told files a b out same does says = (
  same,
  on_files files (λ contents done. record {
    first = line ∷ [];
    others = [];
    parts = refl;
    text = text;
    now = now;
    writes = text_of_one contents line history now text done.writes;
    written = says;
  }) does,
)
says_line (Err (OpenFault input)) line history now text told files a b out same does says = absurd says
says_line (Err (ReadFault input)) line history now text told files a b out same does says = absurd says
says_line (Err (TooLong input)) line history now text told files a b out same does says = absurd says
says_line (Err Done) line history now text told files a b out same does says = absurd says
says_line (Err DoneWithRefusals) line history now text told files a b out same does says = absurd says
says_line (Err Usage) line history now text told files a b out same does says = absurd says

-- the line `notices` writes nothing
pub notices_run : (history : List HistoryEntry) (files : Option Contents) (counts : Counts) (written : Known) (faults : ℕ)
    → LinesRun (Ok false) (Notices ∷ []) history history (flow files counts counts) (outflow written written faults faults)
notices_run history files counts written faults = (
  λ name. refl,
  refl,
  on_all files (λ contents. record {
    within = refl;
    refused = refl;
    text = [];
    writes = text_of_one contents Notices history history [] (refl, refl);
    written = Appends-nil written;
  }),
)

-- memory ran out before a line was run
pub nothing_run : (files : Option Contents) (a b : Counts) (lines : List ScriptLine) (history : List HistoryEntry) (written : Known) (x z : ℕ) → SameCounts a b
    → LinesStop Memory lines history (flow files a b) (outflow written written x z)
nothing_run files a b lines history written x z same = (
  same,
  on_all files (λ contents. record {
    first = [];
    others = lines;
    parts = refl;
    text = [];
    now = history;
    writes = (refl, refl);
    written = front_none written [];
  }),
)

nothing_before : (contents : Contents) (history : List HistoryEntry) (written : Known) → WritesFirst contents [] history written written
nothing_before contents history written = record {
  within = refl;
  text = [];
  now = history;
  writes = (refl, refl);
  written = Appends-nil written;
}

abbrev pub library_input : LibraryFile → InputFile
library_input file = record { input = Library file.library; path = file.path }

loading_alone : (input : Input) (told : Bool) (file : LibraryFile) (history : List HistoryEntry) (files : Option Contents) (written : Known) → input ≡ Library file.library
    → StopsLoading input (Load told file ∷ []) history files written written
loading_alone input told file history files written named = record {
  first = [];
  told = told;
  file = file;
  others = [];
  parts = refl;
  named = named;
  before = on_all files (λ contents. nothing_before contents history written);
}

one_is : (file only : InputFile) → (file ≡ only) ⊎ ⊥ → file ≡ only
one_is file only (inl is) = is
one_is file only (inr none) = absurd none

named_so : (input : Input) (file : LibraryFile) (shelf : ShelfFlow) → FailsAt (library_input file ∷ []) shelf input → input ≡ Library file.library
named_so input file shelf fails = fails.named ∙ ap (λ f. f.input) (one_is fails.file (library_input file) fails.one)

fails_so : (input : Input) (file : LibraryFile) (shelf : ShelfFlow) → FailsAt (library_input file ∷ []) shelf input → FailsUnder file.path shelf
fails_so input file shelf fails =
    let path = ap (λ (f : InputFile). f.path) (one_is fails.file (library_input file) fails.one) in
    record {
      failed = subst (λ name. Rose (shelf.before name) (shelf.after name)) path fails.failed;
      others = subst (λ name. SameElsewhere shelf.before shelf.after name) path fails.others;
    }

-- a line whose file was not read to its end
pub stop_at_file : (status : Status) (told : Bool) (file : LibraryFile) (history : List HistoryEntry) (shelf : ShelfFlow) (written : Known) (x z : ℕ)
    → StopsAt status (library_input file) shelf → LinesStop status (Load told file ∷ []) history shelf (outflow written written x z)
unfolding loading_alone
stop_at_file (OpenFault input) told file history shelf written x z stops =
    (loading_alone input told file history shelf.files written (named_so input file shelf stops), fails_so input file shelf stops)
stop_at_file (ReadFault input) told file history shelf written x z stops =
    (loading_alone input told file history shelf.files written (named_so input file shelf stops), fails_so input file shelf stops)
stop_at_file (TooLong input) told file history shelf written x z stops =
    (loading_alone input told file history shelf.files written stops.1, (stops.0, stops.2))
stop_at_file Memory told file history shelf written x z stops = nothing_run shelf.files shelf.before shelf.after (Load told file ∷ []) history written x z stops
stop_at_file Done told file history shelf written x z stops = absurd stops
stop_at_file DoneWithRefusals told file history shelf written x z stops = absurd stops
stop_at_file Usage told file history shelf written x z stops = absurd stops
stop_at_file WriteFault told file history shelf written x z stops = absurd stops

pub one_within : (contents : Contents) (told : Bool) (file : LibraryFile) → length (contents file.path) ≤ limit_of (Library file.library)
    → AreWithin contents (files_loaded (Load told file ∷ []))
one_within contents told file fits = ap (λ over. cond over (Some (library_input file)) None) (not_over (limit_of (Library file.library)) (length (contents file.path)) fits)
