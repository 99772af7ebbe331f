-- The inputs of a run: what is in their files, how much of each is read, and which of them is too long.
use Rattle.std.specs.Prelude.{◌≡◌, ℕ, Bool, nat_lt, List, length, Some, None}
use Rattle.std.specs.List.{find}
use Rattle.std.specs.Option.{option_map}
use Rattle.std.specs.declared.option.Option.{Option}
use Rattle.union_words.specs.Flows.{InputFile}
use Rattle.union_words.specs.declared.input.Input.{Input}
pub use Rattle.union_words.specs.Stops.{limit_of}

-- what is in the file of each name
abbrev pub Contents : Type 0
Contents = List ℕ → List ℕ

-- the file is too long: it has more bytes than are read of its kind of input
abbrev pub is_overfull : Contents → InputFile → Bool
is_overfull contents file = nat_lt (limit_of file.input) (length (contents file.path))

-- the first of the files that is too long
abbrev pub first_overfull : Contents → List InputFile → Option InputFile
first_overfull contents inputs = find (is_overfull contents) inputs

-- none of the files is too long
abbrev pub AreWithin : Contents → List InputFile → Type 0
AreWithin contents inputs = first_overfull contents inputs ≡ None

-- the input is that of the first file that is too long
abbrev pub IsTooLongAt : Contents → List InputFile → Input → Type 0
IsTooLongAt contents inputs input = option_map (λ file. file.input) (first_overfull contents inputs) ≡ Some input
