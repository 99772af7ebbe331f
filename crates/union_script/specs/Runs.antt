-- What a run of a script says.
use Rattle.std.specs.Prelude.{◌≡◌, ◌≢◌, ℕ, ◌⊎◌, false, List, [], Some, None, IfSome, IsTrue}
use Rattle.std.specs.declared.option.Option.{Option}
use Rattle.std.specs.Io.KnownBytes.{Appends, Keeps}
use Rattle.catalogue_editions.specs.declared.history_entry.HistoryEntry.{HistoryEntry}
use Rattle.union_words.specs.Flows.{ShelfFlow, IsCalm, FailsAt, NoneFails, Outflow, HasFailedAt}
use Rattle.union_words.specs.ScriptLines.{ScriptLine}
use Rattle.union_words.specs.Statuses.{is_done, is_input_fault, end_by}
use Rattle.union_words.specs.declared.input.Input.{Input}
use Rattle.union_words.specs.declared.input.Input.TheVariants.{Library, Asks, Script, Names}
use Rattle.union_words.specs.declared.status.Status.{Status}
use Rattle.union_words.specs.declared.status.Status.TheVariants.{Done, DoneWithRefusals, Usage, OpenFault, ReadFault, WriteFault, TooLong, Memory}
use Rattle.union_script.specs.Inputs.{inputs_of}
use Rattle.union_files.specs.Limits.{AreWithin, IsTooLongAt, Contents}
use Rattle.union_script.specs.Lines.{FailsUnder, StopsLoading, StopsFor, WritesFront}
use Rattle.union_script.specs.Texts.{script_of, ScriptText, has_refusals}

-- the whole text of the script was written
pub record WritesAll (contents : Contents) (script : List ScriptLine) (out : Outflow) : Type 0 where
  pub text : List ℕ
  pub now : List HistoryEntry
  pub writes : ScriptText contents script [] text now
  pub written : Appends out.old out.new text

-- what was written where a run stops at that input: nothing where it is the script's file, and otherwise the text of the lines
-- before the one at which the run stopped. That one loads the file of the input, under whose name the cause lies
abbrev pub WritesBefore : (List ℕ → Type 0) → Input → Contents → List ScriptLine → Outflow → Type 0
WritesBefore Cause Script contents script out = Keeps out.old out.new
WritesBefore Cause (Library code) contents script out =
    (stop : StopsLoading (Library code) script [] (Some contents) out.old out.new) × Cause stop.file.path
WritesBefore Cause Asks contents script out = ⊥
WritesBefore Cause Names contents script out = ⊥

-- something failed under one name and under no other; under that of the script where the input is the script
pub record FailsSomewhere (path : List ℕ) (shelf : ShelfFlow) (input : Input) : Type 0 where
  pub name : List ℕ
  pub fails : FailsUnder name shelf
  pub script : input ≡ Script → name ≡ path

-- the input at which something failed, where the shelf tells its files; which load lines there are is not known elsewhere
abbrev pub IsFaultAt : Option Contents → List ℕ → ShelfFlow → Input → Type 0
IsFaultAt None path shelf input = FailsSomewhere path shelf input
IsFaultAt (Some contents) path shelf input = FailsAt (inputs_of contents path) shelf input

-- the input that a status names
abbrev pub named_by : Status → Option Input
named_by (OpenFault input) = Some input
named_by (ReadFault input) = Some input
named_by (TooLong input) = Some input
named_by Done = None
named_by DoneWithRefusals = None
named_by Usage = None
named_by WriteFault = None
named_by Memory = None

-- a run of the script in the file of that name
pub record IsScript (path : List ℕ) (shelf : ShelfFlow) (out : Outflow) (status : Status) : Type 0 where
  -- what failed, where something did
  pub open_fault : (i : Input) → status ≡ OpenFault i → IsFaultAt shelf.files path shelf i
  pub read_fault : (i : Input) → status ≡ ReadFault i → IsFaultAt shelf.files path shelf i
  pub calm : is_input_fault status ≡ false → IsCalm shelf
  pub write_fault : status ≡ WriteFault → HasFailedAt out
  pub other : status ≢ Usage
  -- which input is too long
  pub too_long : (i : Input) → status ≡ TooLong i → IfSome shelf.files (λ contents. IsTooLongAt contents (inputs_of contents path) i)
  -- all of the text was written, that of the lines before the one at which the run stopped, or a prefix of it
  pub done : IsTrue (is_done status) → IfSome shelf.files (λ contents. AreWithin contents (inputs_of contents path)
      × (status ≡ end_by (has_refusals contents (script_of (contents path)))) × WritesAll contents (script_of (contents path)) out)
  pub before : (i : Input) → named_by status ≡ Some i → IfSome shelf.files (λ contents.
      WritesBefore (λ name. StopsFor status name shelf) i contents (script_of (contents path)) out)
  pub part : (status ≡ WriteFault) ⊎ (status ≡ Memory)
      → IfSome shelf.files (λ contents. WritesFront contents (script_of (contents path)) [] out.old out.new)
  -- where nothing fails it is so, or memory ran out
  pub too_long_where : (contents : Contents) (i : Input) → shelf.files ≡ Some contents → IsTooLongAt contents (inputs_of contents path) i
      → NoneFails (inputs_of contents path) shelf → ¬ HasFailedAt out → (status ≡ TooLong i) ⊎ (status ≡ Memory)
  pub complete : (contents : Contents) → shelf.files ≡ Some contents → AreWithin contents (inputs_of contents path)
      → NoneFails (inputs_of contents path) shelf → ¬ HasFailedAt out
      → (status ≡ end_by (has_refusals contents (script_of (contents path)))) ⊎ (status ≡ Memory)
