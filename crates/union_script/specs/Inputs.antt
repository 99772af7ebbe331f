-- The inputs of a script: its own file, and then the file of each line that loads one, in their order.
use Rattle.std.specs.Prelude.{ℕ, List, [], ◌∷◌}
use Rattle.std.specs.List.{flat_map}
use Rattle.union_words.specs.Flows.{InputFile}
use Rattle.union_words.specs.ScriptLines.{ScriptLine, Load, Export, Works, Notices, Ask, Word}
use Rattle.union_words.specs.declared.input.Input.TheVariants.{Library, Script}
use Rattle.union_script.specs.Texts.{script_of}
use Rattle.union_files.specs.Limits.{Contents}

-- the file of a line that loads one
abbrev pub loaded_by : ScriptLine → List InputFile
loaded_by (Load told file) = record { input = Library file.library; path = file.path } ∷ []
loaded_by Export = []
loaded_by Works = []
loaded_by Notices = []
loaded_by (Ask line) = []
loaded_by Word = []

-- the files of the lines that load one
abbrev pub files_loaded : List ScriptLine → List InputFile
files_loaded lines = flat_map loaded_by lines

-- the inputs of a script whose lines ask for this
abbrev pub inputs_with : List ℕ → List ScriptLine → List InputFile
inputs_with path lines = record { input = Script; path = path } ∷ files_loaded lines

-- the inputs of the script in the file of that name
abbrev pub inputs_of : Contents → List ℕ → List InputFile
inputs_of contents path = inputs_with path (script_of (contents path))
