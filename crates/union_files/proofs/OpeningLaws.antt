-- Files that are opened one after the other.
use Rattle.std.proofs.Common.{◌≡◌, ℕ, true, false, cond, List, [], ◌∷◌, ◌++◌, inl, inr, refl, sym, subst}
use Rattle.std.specs.Prelude.{◌⊎◌, Option, Some, None, IfSome}
use Rattle.std.specs.Option.{option_map}
use Rattle.union_io.specs.Names.{AddsName}
use Rattle.union_words.specs.Flows.{ShelfFlow, InputFile}
use Rattle.union_words.specs.Words.{LibraryFile}
use Rattle.union_words.specs.declared.input.Input.{Input}
use Rattle.union_words.specs.declared.input.Input.TheVariants.{Library}
use Rattle.union_words.specs.declared.status.Status.{Status}
use Rattle.union_words.specs.declared.status.Status.TheVariants.{Done, DoneWithRefusals, Usage, OpenFault, ReadFault, WriteFault, TooLong, Memory}
use Rattle.library_batches.specs.declared.stop.Stop.{Stop}
use Rattle.library_batches.specs.declared.stop.Stop.TheVariants.{TooLong as StopTooLong, Failed as StopFailed, Memory as StopMemory}
use Rattle.union_files.specs.Limits.{Contents, is_overfull, first_overfull}
use Rattle.union_files.specs.Readings.{stopped_with}
use Rattle.union_files.specs.Inputs.{input_of, inputs_of, IsEarliest, FailsEarliest, OpensInOrder, StopsAtLibraries}
use Rattle.union_files.specs.Openings.{OpensEach, OpensUpTo, is_read_first, OpensInTurn}

abbrev NameList : Type 0
NameList = List (List ℕ)

-- a file that was opened, and was not read to its end
pub opened_in_turn : (told : Option Contents) (stop : Stop) (file : InputFile) (rest : List InputFile) (before after : NameList)
    → AddsName before after file.path → OpensInTurn told (stopped_with stop file.input) (file ∷ rest) before after
opened_in_turn told StopFailed file rest before after adds = λ first. inl (refl, adds)
opened_in_turn None StopTooLong file rest before after adds = tt
opened_in_turn (Some contents) StopTooLong file rest before after adds = λ first. inl (refl, adds)
opened_in_turn told StopMemory file rest before after adds = tt

-- files that were all opened, and after them others up to an input
up_to_behind : (input : Input) (first rest : List InputFile) (before between after : NameList) → OpensEach first before between
    → OpensUpTo input rest between after → OpensUpTo input (first ++ rest) before after
up_to_behind input [] rest before between after each opens = subst (λ names. OpensUpTo input rest names after) each opens
up_to_behind input (file ∷ first) rest before between after each opens =
    inr (each.0, each.1, up_to_behind input first rest each.0 between after each.2 opens)

pub in_turn_behind : (told : Option Contents) (status : Status) (first rest : List InputFile) (before between after : NameList)
    → OpensEach first before between → OpensInTurn told status rest between after → OpensInTurn told status (first ++ rest) before after
in_turn_behind told (OpenFault input) first rest before between after each opens = up_to_behind input first rest before between after each opens
in_turn_behind told (ReadFault input) first rest before between after each opens =
    λ is. up_to_behind input first rest before between after each (opens is)
in_turn_behind None (TooLong input) first rest before between after each opens = tt
in_turn_behind (Some contents) (TooLong input) first rest before between after each opens =
    λ is. up_to_behind input first rest before between after each (opens is)
in_turn_behind told Memory first rest before between after each opens = tt
in_turn_behind told Done first rest before between after each opens = tt
in_turn_behind told DoneWithRefusals first rest before between after each opens = tt
in_turn_behind told Usage first rest before between after each opens = tt
in_turn_behind told WriteFault first rest before between after each opens = tt

-- a library's file is not read before the next one is opened
earliest_later : (shelf : ShelfFlow) (file : InputFile) (libraries : List LibraryFile) → IsEarliest shelf file (inputs_of libraries)
    → is_read_first file.input ≡ true → ⊥
earliest_later shelf file [] early first = early
earliest_later shelf file (library ∷ libraries) (inl is) first =
    let clash : false ≡ true = subst (λ (f : InputFile). is_read_first f.input ≡ true) is first in cc
earliest_later shelf file (library ∷ libraries) (inr later) first = earliest_later shelf file libraries later.1 first

long_later : (contents : Contents) (libraries : List LibraryFile) (input : Input)
    → option_map (λ (file : InputFile). file.input) (first_overfull contents (inputs_of libraries)) ≡ Some input → is_read_first input ≡ true → ⊥
long_later contents [] input found first = cc
long_later contents (library ∷ libraries) input found first =
    elim (is_overfull contents (input_of library)) as (λ over.
    option_map (λ (file : InputFile). file.input) (cond over (Some (input_of library)) (first_overfull contents (inputs_of libraries))) ≡ Some input → ⊥) [
      | true ↦ λ found.
          let is : Library library.library ≡ input = cc found in
          (let clash : false ≡ true = subst (λ i. is_read_first i ≡ true) (sym is) first in cc)
      | false ↦ λ found. long_later contents libraries input found first
    ] found

-- the libraries' files, of which each is open before one is read
pub libraries_in_turn : (status : Status) (libraries : List LibraryFile) (shelf : ShelfFlow) (before after : NameList)
    → StopsAtLibraries status libraries shelf → OpensInOrder status libraries before after
    → OpensInTurn shelf.files status (inputs_of libraries) before after
libraries_in_turn (OpenFault input) libraries shelf before after stops opens = opens
libraries_in_turn (ReadFault input) libraries shelf before after stops opens =
    λ first. absurd (earliest_later shelf stops.file libraries stops.one (subst (λ i. is_read_first i ≡ true) stops.named first))
libraries_in_turn (TooLong input) libraries shelf before after stops opens = long_in_turn input libraries shelf.files before after stops.1
  where
    long_in_turn : (input : Input) (libraries : List LibraryFile) (told : Option Contents) (before after : NameList)
        → IfSome told (λ contents. option_map (λ (file : InputFile). file.input) (first_overfull contents (inputs_of libraries)) ≡ Some input)
        → OpensInTurn told (TooLong input) (inputs_of libraries) before after
    long_in_turn input libraries None before after found = tt
    long_in_turn input libraries (Some contents) before after found = λ first. absurd (long_later contents libraries input found first)
libraries_in_turn Memory libraries shelf before after stops opens = tt
libraries_in_turn Done libraries shelf before after stops opens = tt
libraries_in_turn DoneWithRefusals libraries shelf before after stops opens = tt
libraries_in_turn Usage libraries shelf before after stops opens = tt
libraries_in_turn WriteFault libraries shelf before after stops opens = tt
