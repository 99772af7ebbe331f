-- The run of a script, from the reading of its file to its last line.
use Rattle.std.proofs.Common.{◌≡◌, ◌≢◌, ℕ, ◌≤◌, Bool, true, false, cond, List, [], ◌∷◌, ◌++◌, length, inl, inr, refl, sym, ap, subst, ◌∙◌}
use Rattle.std.specs.Prelude.{◌<◌, Option, Some, None, IfSome, IsTrue, Ok, ◌⊎◌}
use Rattle.std.specs.List.{find}
use Rattle.std.specs.Option.{option_map, option_or}
use Rattle.std.proofs.KnownBytes.{Keeps-refl}
use Rattle.std.proofs.lemmas.Bool.{lt-ltb}
use Rattle.std.proofs.lemmas.List.Folds.{find-append}
use Rattle.std.proofs.lemmas.Option.{same_Some}
use Rattle.catalogue_editions.specs.declared.history_entry.HistoryEntry.{HistoryEntry}
use Rattle.union_io.specs.Counts.{SameCounts}
use Rattle.union_words.specs.Flows.{ShelfFlow, IsCalm, InputFile, IsOneOf, FailsAt, NoneFails, Outflow, HasFailedAt}
use Rattle.union_words.specs.ScriptLines.{ScriptLine, Load}
use Rattle.union_words.specs.Words.{LibraryFile}
use Rattle.union_words.specs.Statuses.{is_done, is_input_fault, end_by}
use Rattle.union_words.specs.declared.input.Input.{Input}
use Rattle.union_words.specs.declared.input.Input.TheVariants.{Library, Script}
use Rattle.union_words.specs.declared.status.Status.{Status}
use Rattle.union_words.specs.declared.status.Status.TheVariants.{Done, DoneWithRefusals, Usage, OpenFault, ReadFault, WriteFault, TooLong, Memory}
use Rattle.union_script.specs.Inputs.{files_loaded, inputs_with, inputs_of}
use Rattle.library_batches.specs.Reading.{most_bytes}
use Rattle.union_files.specs.Limits.{is_overfull, first_overfull, AreWithin, IsTooLongAt, Contents}
use Rattle.union_script.specs.Lines.{HasRun, WritesFront, StopsLoading, StopsFor, FailsUnder, LinesStop, LinesRun}
use Rattle.union_files.specs.Readings.{StopsAt}
use Rattle.union_script.specs.Runs.{WritesAll, WritesBefore, IsFaultAt, named_by, IsScript}
use Rattle.union_script.specs.Texts.{script_of, has_refusals}
use Rattle.union_files.proofs.FileLaws.{Counts, flow, same_more}
use Rattle.union_script.proofs.LineLaws.{library_input}
use Rattle.union_files.proofs.LimitLaws.{none_fails, not_over, on_files, on_all, told, within_none}
use Rattle.union_script.proofs.StopLaws.{Known, outflow, stop_behind}
use Rattle.union_script.proofs.TextLaws.{files_behind, front_none, run_none}

-- a run, but for what comes where nothing fails
pub record HasEnded (path : List ℕ) (shelf : ShelfFlow) (out : Outflow) (status : Status) : Type 0 where
  pub open_fault : (i : Input) → status ≡ OpenFault i → IsFaultAt shelf.files path shelf i
  pub read_fault : (i : Input) → status ≡ ReadFault i → IsFaultAt shelf.files path shelf i
  pub calm : is_input_fault status ≡ false → IsCalm shelf
  pub write_fault : status ≡ WriteFault → HasFailedAt out
  pub other : status ≢ Usage
  pub too_long : (i : Input) → status ≡ TooLong i → IfSome shelf.files (λ contents. IsTooLongAt contents (inputs_of contents path) i)
  pub done : IsTrue (is_done status) → IfSome shelf.files (λ contents. AreWithin contents (inputs_of contents path)
      × (status ≡ end_by (has_refusals contents (script_of (contents path)))) × WritesAll contents (script_of (contents path)) out)
  pub before : (i : Input) → named_by status ≡ Some i → IfSome shelf.files (λ contents.
      WritesBefore (λ name. StopsFor status name shelf) i contents (script_of (contents path)) out)
  pub part : (status ≡ WriteFault) ⊎ (status ≡ Memory)
      → IfSome shelf.files (λ contents. WritesFront contents (script_of (contents path)) [] out.old out.new)

no_fault : (path : List ℕ) (shelf : ShelfFlow) (contents : Contents) (i : Input) → shelf.files ≡ Some contents → IsFaultAt shelf.files path shelf i
    → NoneFails (inputs_of contents path) shelf → ⊥
no_fault path shelf contents i is fault none =
    none_fails (inputs_of contents path) shelf i (subst (λ files. IsFaultAt files path shelf i) is fault) none

-- where an input is too long, and nothing fails
long_where : (path : List ℕ) (shelf : ShelfFlow) (out : Outflow) (status : Status) → HasEnded path shelf out status
    → (contents : Contents) (i : Input) → shelf.files ≡ Some contents → IsTooLongAt contents (inputs_of contents path) i
    → NoneFails (inputs_of contents path) shelf → ¬ HasFailedAt out → (status ≡ TooLong i) ⊎ (status ≡ Memory)
long_where path shelf out (OpenFault j) ended contents i is long none sound = absurd (no_fault path shelf contents j is (ended.open_fault j refl) none)
long_where path shelf out (ReadFault j) ended contents i is long none sound = absurd (no_fault path shelf contents j is (ended.read_fault j refl) none)
long_where path shelf out (TooLong j) ended contents i is long none sound =
    inl (ap TooLong (same_Some _ _ (sym (told (λ contents. IsTooLongAt contents (inputs_of contents path) j) shelf.files contents is (ended.too_long j refl)) ∙ long)))
long_where path shelf out WriteFault ended contents i is long none sound = absurd (sound (ended.write_fault refl))
long_where path shelf out Memory ended contents i is long none sound = inr refl
long_where path shelf out Usage ended contents i is long none sound = absurd (ended.other refl)
long_where path shelf out Done ended contents i is long none sound =
    absurd (within_none contents (inputs_of contents path) i (told _ shelf.files contents is (ended.done refl)).0 long)
long_where path shelf out DoneWithRefusals ended contents i is long none sound =
    absurd (within_none contents (inputs_of contents path) i (told _ shelf.files contents is (ended.done refl)).0 long)

-- where no input is too long, and nothing fails
ends_where : (path : List ℕ) (shelf : ShelfFlow) (out : Outflow) (status : Status) → HasEnded path shelf out status
    → (contents : Contents) → shelf.files ≡ Some contents → AreWithin contents (inputs_of contents path)
    → NoneFails (inputs_of contents path) shelf → ¬ HasFailedAt out
    → (status ≡ end_by (has_refusals contents (script_of (contents path)))) ⊎ (status ≡ Memory)
ends_where path shelf out (OpenFault j) ended contents is within none sound = absurd (no_fault path shelf contents j is (ended.open_fault j refl) none)
ends_where path shelf out (ReadFault j) ended contents is within none sound = absurd (no_fault path shelf contents j is (ended.read_fault j refl) none)
ends_where path shelf out (TooLong j) ended contents is within none sound =
    absurd (within_none contents (inputs_of contents path) j within (told (λ contents. IsTooLongAt contents (inputs_of contents path) j) shelf.files contents is (ended.too_long j refl)))
ends_where path shelf out WriteFault ended contents is within none sound = absurd (sound (ended.write_fault refl))
ends_where path shelf out Memory ended contents is within none sound = inr refl
ends_where path shelf out Usage ended contents is within none sound = absurd (ended.other refl)
ends_where path shelf out Done ended contents is within none sound = inl (told _ shelf.files contents is (ended.done refl)).1
ends_where path shelf out DoneWithRefusals ended contents is within none sound = inl (told _ shelf.files contents is (ended.done refl)).1

pub ended_script : (path : List ℕ) (shelf : ShelfFlow) (out : Outflow) (status : Status) → HasEnded path shelf out status → IsScript path shelf out status
ended_script path shelf out status ended = record {
  open_fault = ended.open_fault;
  read_fault = ended.read_fault;
  calm = ended.calm;
  write_fault = ended.write_fault;
  other = ended.other;
  too_long = ended.too_long;
  done = ended.done;
  before = ended.before;
  part = ended.part;
  too_long_where = long_where path shelf out status ended;
  complete = ends_where path shelf out status ended;
}

abbrev script_input : List ℕ → InputFile
script_input path = record { input = Script; path = path }

one_is : (file only : InputFile) → (file ≡ only) ⊎ ⊥ → file ≡ only
one_is file only (inl is) = is
one_is file only (inr none) = absurd none

-- a run that stops at the script's own file
script_fault : (files : Option Contents) (path : List ℕ) (shelf : ShelfFlow) (i : Input) → FailsAt (script_input path ∷ []) shelf i → IsFaultAt files path shelf i
script_fault None path shelf i fails = record {
  name = fails.file.path;
  fails = record { failed = fails.failed; others = fails.others };
  script = λ _. ap (λ f. f.path) (one_is fails.file (script_input path) fails.one);
}
script_fault (Some contents) path shelf i fails = record {
  file = fails.file;
  one = inl (one_is fails.file (script_input path) fails.one);
  named = fails.named;
  failed = fails.failed;
  others = fails.others;
}

script_named : (path : List ℕ) (shelf : ShelfFlow) (i : Input) → FailsAt (script_input path ∷ []) shelf i → i ≡ Script
script_named path shelf i fails = fails.named ∙ ap (λ f. f.input) (one_is fails.file (script_input path) fails.one)

script_calm : (status : Status) (path : List ℕ) (shelf : ShelfFlow) → StopsAt status (script_input path) shelf → is_input_fault status ≡ false → IsCalm shelf
script_calm (OpenFault input) path shelf stops calm = cc
script_calm (ReadFault input) path shelf stops calm = cc
script_calm (TooLong input) path shelf stops calm = stops.0
script_calm Memory path shelf stops calm = stops
script_calm Done path shelf stops calm = absurd stops
script_calm DoneWithRefusals path shelf stops calm = absurd stops
script_calm Usage path shelf stops calm = absurd stops
script_calm WriteFault path shelf stops calm = absurd stops

script_early : (status : Status) (path : List ℕ) (shelf : ShelfFlow) → StopsAt status (script_input path) shelf → is_done status ≡ true → ⊥
script_early (OpenFault input) path shelf stops done = cc
script_early (ReadFault input) path shelf stops done = cc
script_early (TooLong input) path shelf stops done = cc
script_early Memory path shelf stops done = cc
script_early Done path shelf stops done = stops
script_early DoneWithRefusals path shelf stops done = stops
script_early Usage path shelf stops done = stops
script_early WriteFault path shelf stops done = stops

script_is_named : (status : Status) (path : List ℕ) (shelf : ShelfFlow) (i : Input) → StopsAt status (script_input path) shelf → named_by status ≡ Some i → i ≡ Script
script_is_named (OpenFault input) path shelf i stops is = sym (same_Some _ _ is) ∙ script_named path shelf input stops
script_is_named (ReadFault input) path shelf i stops is = sym (same_Some _ _ is) ∙ script_named path shelf input stops
script_is_named (TooLong input) path shelf i stops is = sym (same_Some _ _ is) ∙ stops.1
script_is_named Memory path shelf i stops is = cc
script_is_named Done path shelf i stops is = absurd stops
script_is_named DoneWithRefusals path shelf i stops is = absurd stops
script_is_named Usage path shelf i stops is = absurd stops
script_is_named WriteFault path shelf i stops is = absurd stops

script_long : (contents : Contents) (path : List ℕ) (i : Input) → i ≡ Script → 1048576 < length (contents path)
    → IsTooLongAt contents (inputs_of contents path) i
script_long contents path i named more =
    ap (λ over. option_map (λ (file : InputFile). file.input) (cond over (Some (script_input path)) (find (is_overfull contents) (files_loaded (script_of (contents path))))))
    (lt-ltb 1048576 (length (contents path)) more)
    ∙ ap Some (sym named)

nothing_written : (contents : Contents) (lines : List ScriptLine) (written : Known) → WritesFront contents lines [] written written
nothing_written contents lines written = record {
  first = [];
  others = lines;
  parts = refl;
  text = [];
  now = [];
  writes = (refl, refl);
  written = front_none written [];
}

pub stopped_at_script : (status : Status) (path : List ℕ) (shelf : ShelfFlow) (written : Known) (x z : ℕ) → StopsAt status (script_input path) shelf
    → IsScript path shelf (outflow written written x z) status
stopped_at_script status path shelf written x z stops =
    let at : (s : Status) → status ≡ s → StopsAt s (script_input path) shelf = λ s is. subst (λ s. StopsAt s (script_input path) shelf) is stops in
    ended_script path shelf (outflow written written x z) status (record {
      open_fault = λ i is. script_fault shelf.files path shelf i (at (OpenFault i) is);
      read_fault = λ i is. script_fault shelf.files path shelf i (at (ReadFault i) is);
      calm = λ none. script_calm status path shelf stops none;
      write_fault = λ is. absurd (at WriteFault is);
      other = λ is. at Usage is;
      too_long = λ i is. on_files shelf.files (λ contents more. script_long contents path i (at (TooLong i) is).1 more) (at (TooLong i) is).2;
      done = λ done. absurd (script_early status path shelf stops done);
      before = λ i is. on_all shelf.files (λ contents. subst (λ j. WritesBefore (λ name. StopsFor status name shelf) j contents (script_of (contents path)) (outflow written written x z))
          (sym (script_is_named status path shelf i stops is)) (Keeps-refl written));
      part = λ ends. on_all shelf.files (λ contents. nothing_written contents (script_of (contents path)) written);
    })

-- the script was read, and it is within its limit
abbrev pub IsRead : List ℕ → List ℕ → Contents → Type 0
IsRead path script contents = (length (contents path) ≤ 1048576) × (script ≡ contents path)

-- where the script is within its limit, the first input that is too long is the file of a load line
script_within : (contents : Contents) (path : List ℕ) (lines : List ScriptLine) → length (contents path) ≤ 1048576
    → first_overfull contents (inputs_with path lines) ≡ first_overfull contents (files_loaded lines)
script_within contents path lines fits =
    ap (λ over. cond over (Some (script_input path)) (find (is_overfull contents) (files_loaded lines))) (not_over 1048576 (length (contents path)) fits)

-- the files that are loaded, around that of a line
files_around : (lines first others : List ScriptLine) (told : Bool) (file : LibraryFile) → lines ≡ first ++ Load told file ∷ others
    → files_loaded lines ≡ files_loaded first ++ library_input file ∷ files_loaded others
files_around lines first others told file parts = ap files_loaded parts ∙ files_behind first (Load told file ∷ others)

one_among : (file : InputFile) (first others : List InputFile) → IsOneOf file (first ++ file ∷ others)
one_among file [] others = inl refl
one_among file (x ∷ first) others = inr (one_among file first others)

lines_fault : (files : Option Contents) (path script : List ℕ) (shelf : ShelfFlow) (i : Input) (old new : Known) → IfSome files (IsRead path script)
    → (stop : StopsLoading i (script_of script) [] files old new) → FailsUnder stop.file.path shelf → IsFaultAt files path shelf i
lines_fault None path script shelf i old new read stop fails = record {
  name = stop.file.path;
  fails = fails;
  script = λ is. let clash : Script ≡ Library stop.file.library = sym is ∙ stop.named in cc;
}
lines_fault (Some contents) path script shelf i old new read stop fails = record {
  file = library_input stop.file;
  one =
      inr (subst (λ files. IsOneOf (library_input stop.file) files)
      (sym (files_around (script_of (contents path)) stop.first stop.others stop.told stop.file (ap script_of (sym read.1) ∙ stop.parts)))
      (one_among (library_input stop.file) (files_loaded stop.first) (files_loaded stop.others)));
  named = stop.named;
  failed = fails.failed;
  others = fails.others;
}

lines_long : (contents : Contents) (path script : List ℕ) (i : Input) (old new : Known) → IsRead path script contents
    → (stop : StopsLoading i (script_of script) [] (Some contents) old new) → most_bytes < length (contents stop.file.path)
    → IsTooLongAt contents (inputs_of contents path) i
lines_long contents path script i old new read stop more =
    let p = is_overfull contents in
    let file = library_input stop.file in
    let xs = files_loaded stop.first in
    let ys = files_loaded stop.others in
    let found : first_overfull contents (inputs_of contents path) ≡ Some file
    = script_within contents path (script_of (contents path)) read.0
    ∙ ap (find p) (files_around (script_of (contents path)) stop.first stop.others stop.told stop.file (ap script_of (sym read.1) ∙ stop.parts))
    ∙ find-append p xs (file ∷ ys)
    ∙ ap (λ found. option_or found (find p (file ∷ ys))) stop.before.within
    ∙ ap (λ over. cond over (Some file) (find p ys)) (lt-ltb most_bytes (length (contents stop.file.path)) more) in
    ap (option_map (λ (file : InputFile). file.input)) found ∙ ap Some (sym stop.named)

-- the files that a run tells, and those of which its script was read
long_told : (files : Option Contents) (path script : List ℕ) (i : Input) (old new : Known) → IfSome files (IsRead path script)
    → (stop : StopsLoading i (script_of script) [] files old new) → IfSome files (λ contents. most_bytes < length (contents stop.file.path))
    → IfSome files (λ contents. IsTooLongAt contents (inputs_of contents path) i)
long_told None path script i old new read stop more = tt
long_told (Some contents) path script i old new read stop more = lines_long contents path script i old new read stop more

-- a run stops at a line that loads the file of that input, and the cause lies under the name of that file
abbrev StopsBy : (List ℕ → Type 0) → Input → List ScriptLine → Option Contents → Outflow → Type 0
StopsBy Cause i lines files out = (stop : StopsLoading i lines [] files out.old out.new) × Cause stop.file.path

before_line : (Cause : List ℕ → Type 0) (files : Option Contents) (path script : List ℕ) (i : Input) (out : Outflow)
    → IfSome files (IsRead path script) → StopsBy Cause i (script_of script) files out
    → IfSome files (λ contents. WritesBefore Cause i contents (script_of (contents path)) out)
before_line Cause None path script i out read stop = tt
before_line Cause (Some contents) path script i out read stop =
    subst (λ text. WritesBefore Cause i contents (script_of text) out) read.1
    (subst (λ j. WritesBefore Cause j contents (script_of script) out) (sym stop.0.named)
    (subst (λ j. StopsBy Cause j (script_of script) (Some contents) out) stop.0.named stop))

front_told : (files : Option Contents) (path script : List ℕ) (out : Outflow) → IfSome files (IsRead path script)
    → IfSome files (λ contents. WritesFront contents (script_of script) [] out.old out.new)
    → IfSome files (λ contents. WritesFront contents (script_of (contents path)) [] out.old out.new)
front_told None path script out read front = tt
front_told (Some contents) path script out read front = subst (λ text. WritesFront contents (script_of text) [] out.old out.new) read.1 front

lines_calm : (status : Status) (lines : List ScriptLine) (shelf : ShelfFlow) (out : Outflow) → LinesStop status lines [] shelf out → is_input_fault status ≡ false → IsCalm shelf
lines_calm (OpenFault input) lines shelf out stops calm = cc
lines_calm (ReadFault input) lines shelf out stops calm = cc
lines_calm (TooLong input) lines shelf out stops calm = stops.1.0
lines_calm WriteFault lines shelf out stops calm = stops.0
lines_calm Memory lines shelf out stops calm = stops.0
lines_calm Done lines shelf out stops calm = absurd stops
lines_calm DoneWithRefusals lines shelf out stops calm = absurd stops
lines_calm Usage lines shelf out stops calm = absurd stops

lines_early : (status : Status) (lines : List ScriptLine) (shelf : ShelfFlow) (out : Outflow) → LinesStop status lines [] shelf out → is_done status ≡ true → ⊥
lines_early (OpenFault input) lines shelf out stops done = cc
lines_early (ReadFault input) lines shelf out stops done = cc
lines_early (TooLong input) lines shelf out stops done = cc
lines_early WriteFault lines shelf out stops done = cc
lines_early Memory lines shelf out stops done = cc
lines_early Done lines shelf out stops done = stops
lines_early DoneWithRefusals lines shelf out stops done = stops
lines_early Usage lines shelf out stops done = stops

lines_named : (status : Status) (lines : List ScriptLine) (shelf : ShelfFlow) (out : Outflow) (i : Input) → LinesStop status lines [] shelf out
    → named_by status ≡ Some i → StopsBy (λ name. StopsFor status name shelf) i lines shelf.files out
lines_named (OpenFault input) lines shelf out i stops is =
    subst (λ j. StopsBy (λ name. StopsFor (OpenFault input) name shelf) j lines shelf.files out) (same_Some _ _ is) stops
lines_named (ReadFault input) lines shelf out i stops is =
    subst (λ j. StopsBy (λ name. StopsFor (ReadFault input) name shelf) j lines shelf.files out) (same_Some _ _ is) stops
lines_named (TooLong input) lines shelf out i stops is =
    subst (λ j. StopsBy (λ name. StopsFor (TooLong input) name shelf) j lines shelf.files out) (same_Some _ _ is) stops
lines_named WriteFault lines shelf out i stops is = cc
lines_named Memory lines shelf out i stops is = cc
lines_named Done lines shelf out i stops is = absurd stops
lines_named DoneWithRefusals lines shelf out i stops is = absurd stops
lines_named Usage lines shelf out i stops is = absurd stops

-- a run that stops at a line
stopped_at_line : (status : Status) (path script : List ℕ) (shelf : ShelfFlow) (out : Outflow) → IfSome shelf.files (IsRead path script)
    → LinesStop status (script_of script) [] shelf out → IsScript path shelf out status
stopped_at_line status path script shelf out read stops =
    let at : (s : Status) → status ≡ s → LinesStop s (script_of script) [] shelf out = λ s is. subst (λ s. LinesStop s (script_of script) [] shelf out) is stops in
    ended_script path shelf out status (record {
      open_fault = λ i is. lines_fault shelf.files path script shelf i out.old out.new read (at (OpenFault i) is).0 (at (OpenFault i) is).1;
      read_fault = λ i is. lines_fault shelf.files path script shelf i out.old out.new read (at (ReadFault i) is).0 (at (ReadFault i) is).1;
      calm = λ none. lines_calm status (script_of script) shelf out stops none;
      write_fault = λ is. (at WriteFault is).1;
      other = λ is. at Usage is;
      too_long = λ i is. long_told shelf.files path script i out.old out.new read (at (TooLong i) is).0 (at (TooLong i) is).1.1;
      done = λ done. absurd (lines_early status (script_of script) shelf out stops done);
      before = λ i is. before_line (λ name. StopsFor status name shelf) shelf.files path script i out read (lines_named status (script_of script) shelf out i stops is);
      part = λ ends. elim ends [
        | inl is ↦ front_told shelf.files path script out read (at WriteFault is).2
        | inr is ↦ front_told shelf.files path script out read (at Memory is).1
      ];
    })

-- a run that came to its end
done_told : (files : Option Contents) (path script : List ℕ) (out : Outflow) (refused : Bool) (now : List HistoryEntry) → IfSome files (IsRead path script)
    → IfSome files (λ contents. HasRun contents (script_of script) [] now refused out.old out.new)
    → IfSome files (λ contents. AreWithin contents (inputs_of contents path)
    × (end_by refused ≡ end_by (has_refusals contents (script_of (contents path)))) × WritesAll contents (script_of (contents path)) out)
done_told None path script out refused now read run = tt
done_told (Some contents) path script out refused now read run =
    let all : HasRun contents (script_of (contents path)) [] now refused out.old out.new
    = subst (λ text. HasRun contents (script_of text) [] now refused out.old out.new) read.1 run in (
      script_within contents path (script_of (contents path)) read.0 ∙ all.within,
      ap end_by all.refused,
      record {
        text = all.text;
        now = now;
        writes = all.writes;
        written = all.written;
      },
    )

done_script : (refused : Bool) (path script : List ℕ) (shelf : ShelfFlow) (out : Outflow) (now : List HistoryEntry) → IfSome shelf.files (IsRead path script)
    → IsCalm shelf → IfSome shelf.files (λ contents. HasRun contents (script_of script) [] now refused out.old out.new)
    → IsScript path shelf out (end_by refused)
done_script true path script shelf out now read calm run =
    ended_script path shelf out DoneWithRefusals (record {
      open_fault = λ i is. cc;
      read_fault = λ i is. cc;
      calm = λ none. calm;
      write_fault = λ is. cc;
      other = λ is. cc;
      too_long = λ i is. cc;
      done = λ done. done_told shelf.files path script out true now read run;
      before = λ i is. cc;
      part = λ ends. elim ends [ inl is ↦ cc | inr is ↦ cc ];
    })
done_script false path script shelf out now read calm run =
    ended_script path shelf out Done (record {
      open_fault = λ i is. cc;
      read_fault = λ i is. cc;
      calm = λ none. calm;
      write_fault = λ is. cc;
      other = λ is. cc;
      too_long = λ i is. cc;
      done = λ done. done_told shelf.files path script out false now read run;
      before = λ i is. cc;
      part = λ ends. elim ends [ inl is ↦ cc | inr is ↦ cc ];
    })

-- the lines of a script that was read, seen from before its reading
pub ran_all : (refused : Bool) (path script : List ℕ) (files now_told : Option Contents) (a b c : Counts) (out : Outflow) (now : List HistoryEntry)
    → now_told ≡ files → SameCounts a b → IfSome files (IsRead path script)
    → LinesRun (Ok refused) (script_of script) [] now (flow now_told b c) out → IsScript path (flow files a c) out (end_by refused)
ran_all refused path script files now_told a b c out now is same read run =
    done_script refused path script (flow files a c) out now read (same_more a b c same run.0)
    (subst (λ told. IfSome told (λ contents. HasRun contents (script_of script) [] now refused out.old out.new)) is run.2)

pub ran_part : (status : Status) (path script : List ℕ) (files now_told : Option Contents) (a b c : Counts) (out : Outflow)
    → now_told ≡ files → SameCounts a b → IfSome files (IsRead path script)
    → LinesStop status (script_of script) [] (flow now_told b c) out → IsScript path (flow files a c) out status
ran_part status path script files now_told a b c out is same read stops =
    stopped_at_line status path script (flow files a c) out read
    (stop_behind status [] (script_of script) [] [] false files a b c out.old out.old out.new out.before out.before out.after same refl
    (on_all files (λ contents. run_none contents [] out.old))
    (subst (λ told. LinesStop status (script_of script) [] (flow told b c) out) is stops))
