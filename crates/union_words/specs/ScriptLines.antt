-- What a line of a script asks for.
use Rattle.std.specs.Prelude.{ℕ, Bool, false, ◌&&◌, List, [], ◌∷◌, if◌then◌else◌, codes}
use Rattle.union_base.specs.Blanks.{first_word, rest_of}
use Rattle.union_base.specs.LibraryCodes.{is_library_code}
use Rattle.union_words.specs.Words.{LibraryFile, same_text, is_path}

-- what a line asks for: to load a library's file, the export, the works, that the turns of later loads are told, or what the
-- line itself asks of the catalogue. A load says whether its turns are told, which they are not where it stands alone. `Word` is
-- a line that begins as one of the first four and is in no form of it, and is refused
pub data ScriptLine : Type 0 where
  Load : (told : Bool) (file : LibraryFile) → ScriptLine
  Export : ScriptLine
  Works : ScriptLine
  Notices : ScriptLine
  Ask : (line : List ℕ) → ScriptLine
  Word : ScriptLine

-- after `load` a library code, one blank, and a path, which is all the rest
abbrev pub load_line : List ℕ → ScriptLine
load_line rest =
    (if is_library_code (first_word rest) && is_path (rest_of rest)
    then Load false (record { library = first_word rest; path = rest_of rest }) else Word)

-- after `export`, `works` and `notices` nothing
abbrev pub lone_line : ScriptLine → List ℕ → ScriptLine
lone_line wanted [] = wanted
lone_line wanted (b ∷ rest) = Word

-- what a line of a script asks for
abbrev pub script_line : List ℕ → ScriptLine
script_line line =
    (if same_text (first_word line) (codes "load") then load_line (rest_of line)
    else (if same_text (first_word line) (codes "export") then lone_line Export (rest_of line)
    else (if same_text (first_word line) (codes "works") then lone_line Works (rest_of line)
    else (if same_text (first_word line) (codes "notices") then lone_line Notices (rest_of line) else Ask line))))
