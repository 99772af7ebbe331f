-- The forms of words that the program has, and what each asks for.
use Rattle.std.specs.Prelude.{ℕ, Bool, true, false, ◌&&◌, ◌==◌, not, nat_le, List, [], ◌∷◌, length, map, Option, Some, None, if◌then◌else◌, codes}
use Rattle.std.specs.List.{list_all, list_any, before_first, after_first}
use Rattle.std.specs.Option.{option_and_then, option_map}
use Rattle.std.specs.Str.{is_utf8}
use Rattle.field_merge.specs.Preferences.{preference_of}
use Rattle.union_base.specs.LibraryCodes.{is_library_code}
use Rattle.union_words.specs.Numbers.{option_text, workers_word, seed_of, count_of, workers_of}
use Rattle.union_words.specs.declared.form.Exporting.{Exporting}
use Rattle.union_words.specs.declared.form.Form.{Form}
use Rattle.union_words.specs.declared.form.Form.TheVariants.{Iso2709, Json}
pub use Rattle.union_base.specs.Alike.{same_text}

-- a library and the path of its file
pub record LibraryFile : Type 0 where
  pub library : List ℕ
  pub path : List ℕ

-- how files are loaded: by `workers` workers, with this preference among libraries, the best first, with the names of the file of
-- that path, where there is one, and the libraries
pub record Loading : Type 0 where
  pub workers : ℕ
  pub prefer : List (List ℕ)
  pub names : Option (List ℕ)
  pub libraries : List LibraryFile

-- what a word asks for that stands alone
abbrev pub alone_of : {R : Type 0} → R → List (List ℕ) → Option R
alone_of request [] = Some request
alone_of request (word ∷ rest) = None

-- what the words ask for
pub data Job : Type 0 where
  Check : (file : LibraryFile) → Job
  ToJson : (file : LibraryFile) → Job
  FromJson : (file : LibraryFile) → Job
  Export : (exporting : Exporting) (loading : Loading) → Job
  Works : (loading : Loading) → Job
  Watch : (asks : List ℕ) (loading : Loading) → Job
  Follow : (asks : List ℕ) (libraries : List LibraryFile) → Job
  Script : (path : List ℕ) → Job
  Trial : (seed : ℕ) (count : ℕ) (workers : ℕ) → Job
  Help : Job
  Version : Job

-- a run of it that comes to its end has a report on the second output
abbrev pub has_report : Job → Bool
has_report (Check file) = false
has_report (ToJson file) = true
has_report (FromJson file) = true
has_report (Export exporting loading) = true
has_report (Works loading) = true
has_report (Watch asks loading) = true
has_report (Follow asks libraries) = true
has_report (Script path) = false
has_report (Trial seed count workers) = false
has_report Help = false
has_report Version = false

-- a path is UTF-8 and at least one byte
abbrev pub is_path : List ℕ → Bool
is_path text = nat_le 1 (length text) && is_utf8 text

-- what stands before the first `=`: all where there is none
abbrev pub code_text : List ℕ → List ℕ
code_text word = before_first (λ b. b == 0x3D) word

-- what stands after the first `=`: nothing where there is none
abbrev pub path_text : List ℕ → List ℕ
path_text word = after_first (λ b. b == 0x3D) word

-- a word `LIB=PATH`
abbrev pub is_library_word : List ℕ → Bool
is_library_word word = is_library_code (code_text word) && is_path (path_text word)

-- the library and the path of a word `LIB=PATH`
abbrev pub library_of : List ℕ → LibraryFile
library_of word = record { library = code_text word; path = path_text word }

-- the two words name one library
abbrev pub name_one_library : List ℕ → List ℕ → Bool
name_one_library a b = same_text (code_text a) (code_text b)

-- no library is named twice
abbrev pub have_distinct_codes : List (List ℕ) → Bool
have_distinct_codes [] = true
have_distinct_codes (word ∷ rest) = not (list_any (name_one_library word) rest) && have_distinct_codes rest

-- the most libraries that a command takes
abbrev pub most_libraries : ℕ
most_libraries = 64

-- the words are one to 64 words `LIB=PATH`, and no library is named twice
abbrev pub are_libraries : List (List ℕ) → Bool
are_libraries words =
    (nat_le 1 (length words) && nat_le (length words) most_libraries) && (list_all is_library_word words && have_distinct_codes words)

-- the libraries that the words name, in their order
abbrev pub libraries_of : List (List ℕ) → List LibraryFile
libraries_of words = map library_of words

-- one word `LIB=PATH`
abbrev pub file_job : (LibraryFile → Job) → List (List ℕ) → Option Job
file_job job (word ∷ []) = (if is_library_word word then Some (job (library_of word)) else None)
file_job job [] = None
file_job job (word ∷ more ∷ rest) = None

-- after `check`
abbrev pub check_job : List (List ℕ) → Option Job
check_job words = file_job Check words

-- after `tojson`
abbrev pub to_json_job : List (List ℕ) → Option Job
to_json_job words = file_job ToJson words

-- after `fromjson`
abbrev pub from_json_job : List (List ℕ) → Option Job
from_json_job words = file_job FromJson words

-- how many workers there are where the words do not say
abbrev pub usual_workers : ℕ
usual_workers = 4

-- the number of workers and the words after the option that gives it; or the usual number and all of the words
abbrev pub workers_or : Option ℕ → List (List ℕ) → List (List ℕ) → ℕ × List (List ℕ)
workers_or None rest words = (usual_workers, words)
workers_or (Some workers) rest words = (workers, rest)

-- the workers, by a first word `--workers=N` where there is one, and the words after it
abbrev pub workers_in : List (List ℕ) → ℕ × List (List ℕ)
workers_in [] = (usual_workers, [])
workers_in (word ∷ rest) = workers_or (workers_word word) rest (word ∷ rest)

-- the preference that a word `--prefer=LIB,..` gives
abbrev pub prefer_word : List ℕ → Option (List (List ℕ))
prefer_word word = option_and_then preference_of (option_text (codes "--prefer=") word)

-- this preference, and the words after the option that gives it; or none, and all of the words
abbrev pub prefer_or : Option (List (List ℕ)) → List (List ℕ) → List (List ℕ) → List (List ℕ) × List (List ℕ)
prefer_or None rest words = ([], words)
prefer_or (Some prefer) rest words = (prefer, rest)

-- the preference, by a first word `--prefer=LIB,..` where there is one, and the words after it
abbrev pub prefer_in : List (List ℕ) → List (List ℕ) × List (List ℕ)
prefer_in [] = ([], [])
prefer_in (word ∷ rest) = prefer_or (prefer_word word) rest (word ∷ rest)

-- the text, where it is a path
abbrev pub path_of : List ℕ → Option (List ℕ)
path_of text = (if is_path text then Some text else None)

-- the path in a word `--names=PATH`
abbrev pub names_word : List ℕ → Option (List ℕ)
names_word word = option_and_then path_of (option_text (codes "--names=") word)

-- this path of a file of names, and the words after the option that gives it; or no such file, and all of the words
abbrev pub names_or : Option (List ℕ) → List (List ℕ) → List (List ℕ) → Option (List ℕ) × List (List ℕ)
names_or None rest words = (None, words)
names_or (Some path) rest words = (Some path, rest)

-- the path of the file of names, by a first word `--names=PATH` where there is one, and the words after it
abbrev pub names_in : List (List ℕ) → Option (List ℕ) × List (List ℕ)
names_in [] = (None, [])
names_in (word ∷ rest) = names_or (names_word word) rest (word ∷ rest)

-- the options that `export`, `works` and `watch` have in common, and the words after them
pub record Options : Type 0 where
  pub workers : ℕ
  pub prefer : List (List ℕ)
  pub names : Option (List ℕ)
  pub rest : List (List ℕ)

-- `workers` workers, this preference, and what the words say of names
abbrev pub named_options : ℕ → List (List ℕ) → List (List ℕ) → Options
named_options workers prefer words =
    record { workers = workers; prefer = prefer; names = (names_in words).0; rest = (names_in words).1 }

-- the options in their order, and the words after them
abbrev pub options_in : List (List ℕ) → Options
options_in words = named_options (workers_in words).0 (prefer_in (workers_in words).1).0 (prefer_in (workers_in words).1).1

-- the word that asks for MARC in JSON
abbrev pub is_json_word : List ℕ → Bool
is_json_word word = same_text word (codes "--json")

-- the form of an export, by a first word `--json` where there is one, and the words after it
abbrev pub form_in : List (List ℕ) → Form × List (List ℕ)
form_in [] = (Iso2709, [])
form_in (word ∷ rest) = (if is_json_word word then (Json, rest) else (Iso2709, word ∷ rest))

-- the word by which local fields tell whose they are
abbrev pub is_owners_word : List ℕ → Bool
is_owners_word word = same_text word (codes "--owners")

-- whether they do, by a first word `--owners` where there is one, and the words after it
abbrev pub owners_in : List (List ℕ) → Bool × List (List ℕ)
owners_in [] = (false, [])
owners_in (word ∷ rest) = (if is_owners_word word then (true, rest) else (false, word ∷ rest))

-- an export in this form, and what the words after it say of owners
abbrev pub exporting_with : Form × List (List ℕ) → Exporting × List (List ℕ)
exporting_with (form, words) = (record { form = form; owners = (owners_in words).0 }, (owners_in words).1)

-- how an export shows its editions, by `--json` and `--owners` in this order where there are these, and the words after them
abbrev pub exporting_in : List (List ℕ) → Exporting × List (List ℕ)
exporting_in words = exporting_with (form_in words)

-- one to 64 words `LIB=PATH`, loaded as the options say
abbrev pub loading_of : Options → List (List ℕ) → Option Loading
loading_of options words =
    (if are_libraries words
    then Some (record { workers = options.workers; prefer = options.prefer; names = options.names; libraries = libraries_of words })
    else None)

-- what the options and the words after them say of a load
abbrev pub loading_by : Options → Option Loading
loading_by options = loading_of options options.rest

-- after `export` and the options that the commands have in common
abbrev pub export_form_job : Options → Option Job
export_form_job options = option_map (Export (exporting_in options.rest).0) (loading_of options (exporting_in options.rest).1)

-- after `export`
abbrev pub export_job : List (List ℕ) → Option Job
export_job words = export_form_job (options_in words)

-- and after `works`
abbrev pub works_job : List (List ℕ) → Option Job
works_job words = option_map Works (loading_by (options_in words))

-- the path in a word `--ask=PATH`
abbrev pub ask_word : List ℕ → Option (List ℕ)
ask_word word = option_and_then path_of (option_text (codes "--ask=") word)

-- after the word that names the file of questions
abbrev pub asking_job : Option (List ℕ) → List (List ℕ) → Option Job
asking_job None words = None
asking_job (Some asks) words = option_map (Watch asks) (loading_by (options_in words))

-- and after `watch`
abbrev pub watch_job : List (List ℕ) → Option Job
watch_job [] = None
watch_job (word ∷ rest) = asking_job (ask_word word) rest

-- after the word that names the file of questions of `follow`
abbrev pub following_job : Option (List ℕ) → List (List ℕ) → Option Job
following_job None words = None
following_job (Some asks) words = (if are_libraries words then Some (Follow asks (libraries_of words)) else None)

-- and after `follow`
abbrev pub follow_job : List (List ℕ) → Option Job
follow_job [] = None
follow_job (word ∷ rest) = following_job (ask_word word) rest

-- a path after `script`
abbrev pub script_job : List (List ℕ) → Option Job
script_job (word ∷ []) = (if is_path word then Some (Script word) else None)
script_job [] = None
script_job (word ∷ more ∷ rest) = None

-- the trial of these numbers, where there are all three
abbrev pub numbers_job : Option ℕ → Option ℕ → Option ℕ → Option Job
numbers_job None count workers = None
numbers_job (Some seed) None workers = None
numbers_job (Some seed) (Some count) None = None
numbers_job (Some seed) (Some count) (Some workers) = Some (Trial seed count workers)

-- the number with which the generator begins, how many records are generated, and how many workers load them, after `trial`
abbrev pub trial_job : List (List ℕ) → Option Job
trial_job [] = None
trial_job (seed ∷ []) = None
trial_job (seed ∷ count ∷ []) = None
trial_job (seed ∷ count ∷ workers ∷ []) = numbers_job (seed_of seed) (count_of count) (workers_of workers)
trial_job (seed ∷ count ∷ workers ∷ more ∷ rest) = None

-- what a word that stands alone asks for
abbrev pub lone_job : List ℕ → Option Job
lone_job word =
    (if same_text word (codes "--help") then Some Help
    else (if same_text word (codes "--version") then Some Version else None))

-- what a command with words after it asks for
abbrev pub command_job : List ℕ → List (List ℕ) → Option Job
command_job command words =
    (if same_text command (codes "check") then check_job words
    else (if same_text command (codes "tojson") then to_json_job words
    else (if same_text command (codes "fromjson") then from_json_job words
    else (if same_text command (codes "export") then export_job words
    else (if same_text command (codes "works") then works_job words
    else (if same_text command (codes "watch") then watch_job words
    else (if same_text command (codes "follow") then follow_job words
    else (if same_text command (codes "script") then script_job words
    else (if same_text command (codes "trial") then trial_job words else None)))))))))

-- what the words after the program's name ask for: None where they are in no form that the program has
abbrev pub job_of : List (List ℕ) → Option Job
job_of [] = None
job_of (word ∷ []) = lone_job word
job_of (command ∷ word ∷ rest) = command_job command (word ∷ rest)
