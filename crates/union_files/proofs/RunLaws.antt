-- Runs that stop at their inputs: at one of the files that are read first, or at those of libraries.
use Rattle.std.proofs.Common.{◌≡◌, ◌≤◌, true, false, cond, IsTrue, List, [], ◌∷◌, ◌++◌, length, inl, inr, refl, sym, ap, subst, ◌∙◌}
use Rattle.std.specs.Prelude.{◌<◌, ◌⊎◌, Option, Some, None, IfSome}
use Rattle.std.specs.Option.{option_map, option_or}
use Rattle.std.specs.Io.KnownBytes.{Keeps}
use Rattle.std.proofs.lemmas.Bool.{lt-ltb}
use Rattle.std.proofs.lemmas.List.Folds.{find-append}
use Rattle.std.proofs.lemmas.Option.{same_Some}
use Rattle.union_io.specs.Causes.{Rose}
use Rattle.union_io.specs.Counts.{SameCounts}
use Rattle.union_words.specs.Flows.{ShelfFlow, IsCalm, InputFile, IsOneOf, FailsAt, NoneFails, Outflow}
use Rattle.union_words.specs.Words.{LibraryFile}
use Rattle.union_words.specs.Statuses.{is_done, is_input_fault}
use Rattle.union_words.specs.declared.input.Input.{Input}
use Rattle.union_words.specs.declared.status.Status.{Status}
use Rattle.union_words.specs.declared.status.Status.TheVariants.{Done, DoneWithRefusals, Usage, OpenFault, ReadFault, WriteFault, TooLong, Memory}
use Rattle.union_files.specs.Limits as all
use Rattle.union_files.specs.Readings as one
use Rattle.union_files.specs.Limits.{Contents}
use Rattle.union_files.proofs.FileLaws.{Counts, flow, same_more}
use Rattle.union_files.proofs.LimitLaws.{not_over, none_fails, told, within_none, on_both}
use Rattle.union_files.specs.Inputs.{inputs_of, IsEarliest, FailsEarliest, StopsAtLibraries}
use Rattle.union_files.specs.Runs.{RunTexts, IsRunOver}

-- how the input of a file is named
abbrev named : InputFile → Input
named file = file.input

-- ---- lists of inputs

among_first : (file : InputFile) (xs ys : List InputFile) → IsOneOf file xs → IsOneOf file (xs ++ ys)
among_first file [] ys one = absurd one
among_first file (x ∷ xs) ys (inl is) = inl is
among_first file (x ∷ xs) ys (inr more) = inr (among_first file xs ys more)

among_last : (file : InputFile) (xs ys : List InputFile) → IsOneOf file ys → IsOneOf file (xs ++ ys)
among_last file [] ys one = one
among_last file (x ∷ xs) ys one = inr (among_last file xs ys one)

alone_among : (file other : InputFile) (before after : List InputFile) → IsOneOf file (other ∷ []) → IsOneOf file (before ++ other ∷ after)
alone_among file other before after (inl is) = among_last file before (other ∷ after) (inl is)
alone_among file other before after (inr none) = absurd none

none_last : (xs ys : List InputFile) (shelf : ShelfFlow) → NoneFails (xs ++ ys) shelf → NoneFails ys shelf
none_last [] ys shelf none = none
none_last (x ∷ xs) ys shelf none = none_last xs ys shelf none.1

-- the first of two parts that is too long
first_of : (contents : Contents) (xs ys : List InputFile)
    → all.first_overfull contents (xs ++ ys) ≡ option_or (all.first_overfull contents xs) (all.first_overfull contents ys)
first_of contents xs ys = find-append (all.is_overfull contents) xs ys

-- where the first part is within
behind_first : (contents : Contents) (xs ys : List InputFile) → all.AreWithin contents xs
    → all.first_overfull contents (xs ++ ys) ≡ all.first_overfull contents ys
behind_first contents xs ys within = first_of contents xs ys ∙ ap (λ found. option_or found (all.first_overfull contents ys)) within

-- a file that is too long, after others that are not
over_at : (contents : Contents) (before : List InputFile) (file : InputFile) (after : List InputFile) → all.AreWithin contents before
    → all.limit_of file.input < length (contents file.path) → all.first_overfull contents (before ++ file ∷ after) ≡ Some file
over_at contents before file after within more =
    behind_first contents before (file ∷ after) within
    ∙ ap (λ over. cond over (Some file) (all.first_overfull contents after)) (lt-ltb (all.limit_of file.input) (length (contents file.path)) more)

over_first : (contents : Contents) (before : List InputFile) (file : InputFile) (after more : List InputFile) → all.AreWithin contents before
    → all.limit_of file.input < length (contents file.path) → all.IsTooLongAt contents ((before ++ file ∷ after) ++ more) file.input
over_first contents before file after more within long =
    ap (option_map named)
    (first_of contents (before ++ file ∷ after) more
    ∙ ap (λ found. option_or found (all.first_overfull contents more)) (over_at contents before file after within long))

pub within_all : (contents : Contents) (first : List InputFile) (libraries : List LibraryFile) → all.AreWithin contents first
    → all.AreWithin contents (inputs_of libraries) → all.AreWithin contents (first ++ inputs_of libraries)
within_all contents first libraries fits within = behind_first contents first (inputs_of libraries) fits ∙ within

-- one file before them that is not too long
pub within_cons : (contents : Contents) (file : InputFile) (rest : List InputFile) → length (contents file.path) ≤ all.limit_of file.input
    → all.AreWithin contents rest → all.AreWithin contents (file ∷ rest)
within_cons contents file rest fits within =
    ap (λ over. cond over (Some file) (all.first_overfull contents rest)) (not_over (all.limit_of file.input) (length (contents file.path)) fits) ∙ within

first_named : (contents : Contents) (first : List InputFile) (libraries : List LibraryFile) → all.AreWithin contents first
    → option_map named (all.first_overfull contents (first ++ inputs_of libraries)) ≡ option_map named (all.first_overfull contents (inputs_of libraries))
first_named contents first libraries within = ap (option_map named) (behind_first contents first (inputs_of libraries) within)

-- ---- why a run stops

-- why, as the run owes it
abbrev Stops : Status → List InputFile → List LibraryFile → ShelfFlow → Type 0
Stops (OpenFault input) first libraries shelf = FailsAt (first ++ inputs_of libraries) shelf input
Stops (ReadFault input) first libraries shelf = FailsAt first shelf input ⊎ FailsEarliest (inputs_of libraries) shelf input
Stops (TooLong input) first libraries shelf =
    IsCalm shelf × IfSome shelf.files (λ contents. all.IsTooLongAt contents (first ++ inputs_of libraries) input)
Stops Memory first libraries shelf = IsCalm shelf
Stops Done first libraries shelf = ⊥
Stops DoneWithRefusals first libraries shelf = ⊥
Stops Usage first libraries shelf = ⊥
Stops WriteFault first libraries shelf = ⊥

fails_among : (xs ys : List InputFile) (shelf : ShelfFlow) (input : Input) → ((file : InputFile) → IsOneOf file xs → IsOneOf file ys)
    → FailsAt xs shelf input → FailsAt ys shelf input
fails_among xs ys shelf input among fails = record {
  file = fails.file;
  one = among fails.file fails.one;
  named = fails.named;
  failed = fails.failed;
  others = fails.others;
}

fails_one : (before : List InputFile) (file : InputFile) (after more : List InputFile) (shelf : ShelfFlow) (input : Input)
    → FailsAt (file ∷ []) shelf input → FailsAt ((before ++ file ∷ after) ++ more) shelf input
fails_one before file after more shelf input fails =
    fails_among (file ∷ []) ((before ++ file ∷ after) ++ more) shelf input
    (λ one is. among_first one (before ++ file ∷ after) more (alone_among one file before after is)) fails

-- at one of the first files
first_stops : (status : Status) (before : List InputFile) (file : InputFile) (after : List InputFile) (libraries : List LibraryFile) (shelf : ShelfFlow)
    → IfSome shelf.files (λ contents. all.AreWithin contents before) → one.StopsAt status file shelf
    → Stops status (before ++ file ∷ after) libraries shelf
first_stops (OpenFault input) before file after libraries shelf fits stops = fails_one before file after (inputs_of libraries) shelf input stops
first_stops (ReadFault input) before file after libraries shelf fits stops =
    inl (fails_among (file ∷ []) (before ++ file ∷ after) shelf input (λ one is. alone_among one file before after is) stops)
first_stops (TooLong input) before file after libraries shelf fits stops = (
  stops.0,
  on_both shelf.files (λ contents within more. subst (all.IsTooLongAt contents ((before ++ file ∷ after) ++ inputs_of libraries)) (sym stops.1)
      (over_first contents before file after (inputs_of libraries) within more))
      fits stops.2,
)
first_stops Memory before file after libraries shelf fits stops = stops
first_stops Done before file after libraries shelf fits stops = stops
first_stops DoneWithRefusals before file after libraries shelf fits stops = stops
first_stops Usage before file after libraries shelf fits stops = stops
first_stops WriteFault before file after libraries shelf fits stops = stops

fails_behind : (first : List InputFile) (libraries : List LibraryFile) (files : Option Contents) (a b c : Counts) (input : Input) → SameCounts a b
    → FailsAt (inputs_of libraries) (flow files b c) input → FailsAt (first ++ inputs_of libraries) (flow files a c) input
fails_behind first libraries files a b c input same fails = record {
  file = fails.file;
  one = among_last fails.file first (inputs_of libraries) fails.one;
  named = fails.named;
  failed = subst (λ count. Rose count (c fails.file.path)) (same fails.file.path) fails.failed;
  others = λ name differs. fails.others name differs ∙ same name;
}

earliest_behind : (files : Option Contents) (a b c : Counts) (file : InputFile) (inputs : List InputFile) → SameCounts a b
    → IsEarliest (flow files b c) file inputs → IsEarliest (flow files a c) file inputs
earliest_behind files a b c file [] same early = absurd early
earliest_behind files a b c file (first ∷ rest) same (inl is) = inl is
earliest_behind files a b c file (first ∷ rest) same (inr later) = inr (later.0 ∙ same first.path, earliest_behind files a b c file rest same later.1)

reads_behind : (libraries : List LibraryFile) (files : Option Contents) (a b c : Counts) (input : Input) → SameCounts a b
    → FailsEarliest (inputs_of libraries) (flow files b c) input → FailsEarliest (inputs_of libraries) (flow files a c) input
reads_behind libraries files a b c input same fails = record {
  file = fails.file;
  one = earliest_behind files a b c fails.file (inputs_of libraries) same fails.one;
  named = fails.named;
  failed = subst (λ count. Rose count (c fails.file.path)) (same fails.file.path) fails.failed;
  others = λ name elsewhere. fails.others name elsewhere ∙ same name;
}

-- at the libraries' files, where the first files were read
library_stops : (status : Status) (first : List InputFile) (libraries : List LibraryFile) (files : Option Contents) (a b c : Counts) → SameCounts a b
    → IfSome files (λ contents. all.AreWithin contents first) → StopsAtLibraries status libraries (flow files b c)
    → Stops status first libraries (flow files a c)
library_stops (OpenFault input) first libraries files a b c same fits stops = fails_behind first libraries files a b c input same stops
library_stops (ReadFault input) first libraries files a b c same fits stops = inr (reads_behind libraries files a b c input same stops)
library_stops (TooLong input) first libraries files a b c same fits stops =
    (same_more a b c same stops.0, on_both files (λ contents within found. first_named contents first libraries within ∙ found) fits stops.1)
library_stops Memory first libraries files a b c same fits stops = same_more a b c same stops
library_stops Done first libraries files a b c same fits stops = stops
library_stops DoneWithRefusals first libraries files a b c same fits stops = stops
library_stops Usage first libraries files a b c same fits stops = stops
library_stops WriteFault first libraries files a b c same fits stops = stops

-- ---- what such a run owes

none_earliest : (shelf : ShelfFlow) (file : InputFile) (inputs : List InputFile) → IsEarliest shelf file inputs → NoneFails inputs shelf
    → ¬ Rose (shelf.before file.path) (shelf.after file.path)
none_earliest shelf file [] early none = absurd early
none_earliest shelf file (first ∷ rest) (inl is) none = subst (λ f. ¬ Rose (shelf.before f.path) (shelf.after f.path)) (sym is) none.0
none_earliest shelf file (first ∷ rest) (inr later) none = none_earliest shelf file rest later.1 none.1

none_reads : (first : List InputFile) (libraries : List LibraryFile) (shelf : ShelfFlow) (input : Input)
    → FailsAt first shelf input ⊎ FailsEarliest (inputs_of libraries) shelf input → NoneFails (first ++ inputs_of libraries) shelf → ⊥
none_reads first libraries shelf input (inl fails) none =
    none_fails (first ++ inputs_of libraries) shelf input
    (fails_among first (first ++ inputs_of libraries) shelf input (λ one is. among_first one first (inputs_of libraries) is) fails) none
none_reads first libraries shelf input (inr fails) none =
    none_earliest shelf fails.file (inputs_of libraries) fails.one (none_last first (inputs_of libraries) shelf none) fails.failed

stops_calm : (status : Status) (first : List InputFile) (libraries : List LibraryFile) (shelf : ShelfFlow) → Stops status first libraries shelf
    → is_input_fault status ≡ false → IsCalm shelf
stops_calm (OpenFault input) first libraries shelf stops none = cc
stops_calm (ReadFault input) first libraries shelf stops none = cc
stops_calm (TooLong input) first libraries shelf stops none = stops.0
stops_calm Memory first libraries shelf stops none = stops
stops_calm Done first libraries shelf stops none = absurd stops
stops_calm DoneWithRefusals first libraries shelf stops none = absurd stops
stops_calm Usage first libraries shelf stops none = absurd stops
stops_calm WriteFault first libraries shelf stops none = absurd stops

stops_early : (status : Status) (first : List InputFile) (libraries : List LibraryFile) (shelf : ShelfFlow) → Stops status first libraries shelf
    → IsTrue (is_done status) → ⊥
stops_early (OpenFault input) first libraries shelf stops done = cc
stops_early (ReadFault input) first libraries shelf stops done = cc
stops_early (TooLong input) first libraries shelf stops done = cc
stops_early Memory first libraries shelf stops done = cc
stops_early Done first libraries shelf stops done = stops
stops_early DoneWithRefusals first libraries shelf stops done = stops
stops_early Usage first libraries shelf stops done = stops
stops_early WriteFault first libraries shelf stops done = stops

stops_where : (status : Status) (first : List InputFile) (libraries : List LibraryFile) (shelf : ShelfFlow) (contents : Contents) (i : Input)
    → Stops status first libraries shelf → shelf.files ≡ Some contents → all.IsTooLongAt contents (first ++ inputs_of libraries) i
    → NoneFails (first ++ inputs_of libraries) shelf → (status ≡ TooLong i) ⊎ (status ≡ Memory)
stops_where (OpenFault input) first libraries shelf contents i stops is found none = absurd (none_fails (first ++ inputs_of libraries) shelf input stops none)
stops_where (ReadFault input) first libraries shelf contents i stops is found none = absurd (none_reads first libraries shelf input stops none)
stops_where (TooLong input) first libraries shelf contents i stops is found none =
    inl (ap TooLong (same_Some _ _ (sym (told (λ contents. all.IsTooLongAt contents (first ++ inputs_of libraries) input) shelf.files contents is stops.1) ∙ found)))
stops_where Memory first libraries shelf contents i stops is found none = inr refl
stops_where Done first libraries shelf contents i stops is found none = absurd stops
stops_where DoneWithRefusals first libraries shelf contents i stops is found none = absurd stops
stops_where Usage first libraries shelf contents i stops is found none = absurd stops
stops_where WriteFault first libraries shelf contents i stops is found none = absurd stops

stops_whole : (status : Status) (first : List InputFile) (libraries : List LibraryFile) (shelf : ShelfFlow) (contents : Contents)
    → Stops status first libraries shelf → shelf.files ≡ Some contents → all.AreWithin contents (first ++ inputs_of libraries)
    → NoneFails (first ++ inputs_of libraries) shelf → status ≡ Memory
stops_whole (OpenFault input) first libraries shelf contents stops is within none = absurd (none_fails (first ++ inputs_of libraries) shelf input stops none)
stops_whole (ReadFault input) first libraries shelf contents stops is within none = absurd (none_reads first libraries shelf input stops none)
stops_whole (TooLong input) first libraries shelf contents stops is within none =
    absurd (within_none contents (first ++ inputs_of libraries) input within
    (told (λ contents. all.IsTooLongAt contents (first ++ inputs_of libraries) input) shelf.files contents is stops.1))
stops_whole Memory first libraries shelf contents stops is within none = refl
stops_whole Done first libraries shelf contents stops is within none = absurd stops
stops_whole DoneWithRefusals first libraries shelf contents stops is within none = absurd stops
stops_whole Usage first libraries shelf contents stops is within none = absurd stops
stops_whole WriteFault first libraries shelf contents stops is within none = absurd stops

stopped_run : (AreTexts : RunTexts) (status : Status) (first : List InputFile) (libraries : List LibraryFile) (shelf : ShelfFlow) (out notes : Outflow)
    → Stops status first libraries shelf → Keeps out.old out.new → IsRunOver first libraries AreTexts shelf out notes status
stopped_run AreTexts status first libraries shelf out notes stops keeps =
    let at : (s : Status) → status ≡ s → Stops s first libraries shelf = λ s is. subst (λ s. Stops s first libraries shelf) is stops in
    record {
      open_fault = λ i is. at (OpenFault i) is;
      read_fault = λ i is. at (ReadFault i) is;
      calm = λ none. stops_calm status first libraries shelf stops none;
      write_fault = λ is. absurd (at WriteFault is);
      other = λ is. at Usage is;
      too_long = λ i is. (at (TooLong i) is).1;
      done = λ done. absurd (stops_early status first libraries shelf stops done);
      untouched = λ early other. keeps;
      memory = λ is. inl keeps;
      part = λ is. absurd (at WriteFault is);
      too_long_where = λ contents i is found none. stops_where status first libraries shelf contents i stops is found none;
      complete = λ contents is within none sound_out sound_notes. inr (stops_whole status first libraries shelf contents stops is within none);
    }

-- a run that stops at one of the files that are read first
pub stopped_first : (AreTexts : RunTexts) (status : Status) (before : List InputFile) (file : InputFile) (after : List InputFile)
    (libraries : List LibraryFile) (shelf : ShelfFlow) (out notes : Outflow)
    → IfSome shelf.files (λ contents. all.AreWithin contents before) → one.StopsAt status file shelf → Keeps out.old out.new
    → IsRunOver (before ++ file ∷ after) libraries AreTexts shelf out notes status
stopped_first AreTexts status before file after libraries shelf out notes fits stops keeps =
    stopped_run AreTexts status (before ++ file ∷ after) libraries shelf out notes (first_stops status before file after libraries shelf fits stops) keeps

-- a run that read those, and stops at the libraries' files
pub stopped_at_libraries : (AreTexts : RunTexts) (status : Status) (first : List InputFile) (libraries : List LibraryFile) (files : Option Contents)
    (a b c : Counts) (out notes : Outflow) → SameCounts a b → IfSome files (λ contents. all.AreWithin contents first)
    → StopsAtLibraries status libraries (flow files b c) → Keeps out.old out.new
    → IsRunOver first libraries AreTexts (flow files a c) out notes status
stopped_at_libraries AreTexts status first libraries files a b c out notes same fits stops keeps =
    stopped_run AreTexts status first libraries (flow files a c) out notes (library_stops status first libraries files a b c same fits stops) keeps
