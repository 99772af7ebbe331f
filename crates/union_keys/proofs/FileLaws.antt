-- Files that are read one after the other.
use Rattle.std.proofs.Common.{◌≡◌, ℕ, ◌+◌, ◌≤◌, List, length, drop, Some, sym, ap, subst, ◌∙◌}
use Rattle.std.specs.Prelude.{Option, IfSome, if◌then◌else◌}
use Rattle.std.specs.List.{slice_get}
use Rattle.std.proofs.lemmas.Bool.{le-ltb}
use Rattle.union_files.specs.Limits.{AreWithin, first_overfull, limit_of}
use Rattle.union_words.specs.Stops.{input_of, inputs_of}
use Rattle.union_words.specs.Words.{LibraryFile}
use Rattle.union_words.proofs.StopLaws.{drop-get}
use Rattle.union_keys.specs.Placed.{placed}
use Rattle.union_keys.specs.Readings.{Read, TakesAll, ReadsFiles}

-- the file at a place, and then those after it
pub files-next : (contents : List ℕ → List ℕ) (all : List LibraryFile) (place : ℕ) (file : LibraryFile) (a b c : Read)
    → slice_get all place ≡ Some file → TakesAll file.library 1 (placed (contents file.path)) a b
    → ReadsFiles contents (drop (place + 1) all) b c → ReadsFiles contents (drop place all) a c
files-next contents all place file a b c here taken later =
    subst (λ files. ReadsFiles contents files a c) (sym (drop-get all place file here)) (b, taken, later)

-- a file that is not too long, and none of those after it
pub within-next : (contents : List ℕ → List ℕ) (all : List LibraryFile) (place : ℕ) (file : LibraryFile) → slice_get all place ≡ Some file
    → length (contents file.path) ≤ limit_of (input_of file).input → AreWithin contents (inputs_of (drop (place + 1) all)) → AreWithin contents (inputs_of (drop place all))
within-next contents all place file here fits later =
    let rest = first_overfull contents (inputs_of (drop (place + 1) all)) in
    subst (λ files. AreWithin contents (inputs_of files)) (sym (drop-get all place file here))
    (ap (λ over. if over then Some (input_of file) else rest) (le-ltb (limit_of (input_of file).input) (length (contents file.path)) fits) ∙ later)

-- what is told of a file that was read to its end
pub told-within : (files : Option (List ℕ → List ℕ)) (contents : List ℕ → List ℕ) (file : LibraryFile) (P : (List ℕ → List ℕ) → Type 0) → files ≡ Some contents
    → IfSome files (λ told. (length (told file.path) ≤ limit_of (input_of file).input) × P told) → length (contents file.path) ≤ limit_of (input_of file).input
told-within files contents file P is read = (subst (λ fs. IfSome fs (λ told. (length (told file.path) ≤ limit_of (input_of file).input) × P told)) is read).0

pub told-taken : (files : Option (List ℕ → List ℕ)) (contents : List ℕ → List ℕ) (file : LibraryFile) (a b : Read) → files ≡ Some contents
    → IfSome files (λ told. (length (told file.path) ≤ limit_of (input_of file).input) × TakesAll file.library 1 (placed (told file.path)) a b)
    → TakesAll file.library 1 (placed (contents file.path)) a b
told-taken files contents file a b is read =
    (subst (λ fs. IfSome fs (λ told. (length (told file.path) ≤ limit_of (input_of file).input) × TakesAll file.library 1 (placed (told file.path)) a b)) is read).1
