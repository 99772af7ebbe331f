-- The forms of words that the program has, and what each asks for.
use Rattle.std.specs.Prelude.{ℕ, List, [], ◌∷◌, Option, Some, None, if◌then◌else◌, codes}
use Rattle.union_words.specs.Meanings.{libraries_meaning}
use Rattle.union_words.specs.Words.{LibraryFile, alone_of, same_text, are_libraries, libraries_of}
use Rattle.union_explain.specs.declared.form.Form.{Form}
use Rattle.union_explain.specs.declared.form.Form.TheVariants.{Tabs, Csv}
use Rattle.union_explain.specs.declared.request.Request.{Request as RequestInPlace}
use Rattle.union_explain.specs.declared.request.Request.TheVariants.{Explain as ExplainInPlace, Help as HelpInPlace, Version as VersionInPlace}

-- what the words ask for: to explain the reports on some libraries' files, or the help or the version
pub data Request : Type 0 where
  Explain : (form : Form) (libraries : List LibraryFile) → Request
  Help : Request
  Version : Request

-- what the code's request stands for
abbrev pub request_meaning : RequestInPlace → Request
request_meaning (ExplainInPlace form libraries) = Explain form (libraries_meaning libraries)
request_meaning HelpInPlace = Help
request_meaning VersionInPlace = Version

-- one to 64 words `LIB=PATH`, no library twice
abbrev pub table_of : Form → List (List ℕ) → Option Request
table_of form words = (if are_libraries words then Some (Explain form (libraries_of words)) else None)

-- what the words after the program's name ask for
abbrev pub request_of : List (List ℕ) → Option Request
request_of [] = None
request_of (word ∷ rest) =
    (if same_text word (codes "--csv") then table_of Csv rest
    else (if same_text word (codes "--help") then alone_of Help rest
    else (if same_text word (codes "--version") then alone_of Version rest else table_of Tabs (word ∷ rest))))
