-- The names of a run: what its file of names was read into, or none where it has no such file.
use Rattle.std.specs.Prelude.{◌≡◌, ℕ, Bool, false, List, [], ◌∷◌, Option, None, Some, Ok, Err}
use Rattle.std.specs.FinMap.{empty}
use Rattle.std.specs.declared.result.Result.{Result}
use Rattle.authority_names.specs.Leads.{Table}
use Rattle.iso2709_frame.specs.Frames.{frames}
use Rattle.union_words.specs.Flows.{ShelfFlow, IsCalm, InputFile}
use Rattle.union_words.specs.declared.input.Input.TheVariants.{Names}
use Rattle.union_words.specs.declared.status.Status.{Status}
use Rattle.union_files.specs.Readings.{ReadsFile}
use Rattle.names_file.specs.NamesFiles.{IsNamesFile}
use Rattle.names_file.specs.declared.names_read.NamesRead.{NamesRead}

-- the table, what is told of the file's frames, and whether one of them is refused
pub record Named : Type 0 where
  pub table : Table
  pub report : List ℕ
  pub refused : Bool

-- what was read of a file of names, without how it is kept
abbrev pub named_by : NamesRead → Named
named_by found = record { table = found.table; report = found.report.items; refused = found.refused }

-- no names, and nothing to report of them
abbrev pub no_names : Named
no_names = record { table = empty; report = []; refused = false }

-- they are what is read from the file of names at that path, whose bytes `contents` gives; without a path they are no names
abbrev pub IsNamedBy : (List ℕ → List ℕ) → Option (List ℕ) → Named → Type 0
IsNamedBy contents None names = names ≡ no_names
IsNamedBy contents (Some path) names = (found : NamesRead) × IsNamesFile (frames (contents path)) found × (names ≡ named_by found)

-- the file of names as an input
abbrev pub names_file : List ℕ → InputFile
names_file path = record { input = Names; path = path }

-- the inputs that a run's names are read from
abbrev pub names_inputs : Option (List ℕ) → List InputFile
names_inputs None = []
names_inputs (Some path) = names_file path ∷ []

-- the names were read, or the run stops at their file. Where there is no file there are no names
abbrev pub ReadsNames : Option (List ℕ) → Result NamesRead Status → ShelfFlow → Type 0
ReadsNames None (Ok found) shelf = IsCalm shelf × (named_by found ≡ no_names)
ReadsNames None (Err status) shelf = ⊥
ReadsNames (Some path) result shelf = ReadsFile result (names_file path) shelf (λ found bytes. IsNamesFile (frames bytes) found)
