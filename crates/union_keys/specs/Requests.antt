-- The forms of words that the program has, and what each asks for.
use Rattle.std.specs.Prelude.{ℕ, List, [], ◌∷◌, Option, Some, None, if◌then◌else◌, codes}
use Rattle.std.specs.Option.{option_copied}
use Rattle.union_words.specs.Meanings.{libraries_meaning}
use Rattle.union_words.specs.Numbers.{option_text}
use Rattle.union_words.specs.Words.{LibraryFile, alone_of, same_text, are_libraries, libraries_of}
use Rattle.union_keys.specs.declared.request.Request.{Request as RequestInPlace}
use Rattle.union_keys.specs.declared.request.Request.TheVariants.{Keys as KeysInPlace, Table as TableInPlace, Help as HelpInPlace, Version as VersionInPlace}

-- what the words ask for
pub data Request : Type 0 where
  Keys : (groups : Option (List ℕ)) (libraries : List LibraryFile) → Request
  Table : (groups : Option (List ℕ)) (libraries : List LibraryFile) → Request
  Help : Request
  Version : Request

-- what the code's request stands for
abbrev pub request_meaning : RequestInPlace → Request
request_meaning (KeysInPlace groups libraries) = Keys (option_copied groups) (libraries_meaning libraries)
request_meaning (TableInPlace groups libraries) = Table (option_copied groups) (libraries_meaning libraries)
request_meaning HelpInPlace = Help
request_meaning VersionInPlace = Version

-- one to 64 words `LIB=PATH`, no library twice
abbrev pub keys_of : Option (List ℕ) → List (List ℕ) → Option Request
keys_of groups words = (if are_libraries words then Some (Keys groups (libraries_of words)) else None)

-- the same after a word `--groups=PATH`
abbrev pub grouped_of : Option (List ℕ) → List ℕ → List (List ℕ) → Option Request
grouped_of None word rest = keys_of None (word ∷ rest)
grouped_of (Some path) word rest = keys_of (Some path) rest

-- what is asked of libraries as numbers
abbrev pub numbers_of : Option (List ℕ) → List (List ℕ) → Option Request
numbers_of groups words = (if are_libraries words then Some (Table groups (libraries_of words)) else None)

-- the same after a word `--groups=PATH`
abbrev pub grouped_numbers_of : Option (List ℕ) → List ℕ → List (List ℕ) → Option Request
grouped_numbers_of None word rest = numbers_of None (word ∷ rest)
grouped_numbers_of (Some path) word rest = numbers_of (Some path) rest

-- what the words after `--table` ask for
abbrev pub table_of : List (List ℕ) → Option Request
table_of [] = None
table_of (word ∷ rest) = grouped_numbers_of (option_text (codes "--groups=") word) word rest

-- what the words after the program's name ask for
abbrev pub request_of : List (List ℕ) → Option Request
request_of [] = None
request_of (word ∷ rest) =
    (if same_text word (codes "--help") then alone_of Help rest
    else (if same_text word (codes "--version") then alone_of Version rest
    else (if same_text word (codes "--table") then table_of rest
    else grouped_of (option_text (codes "--groups=") word) word rest)))
