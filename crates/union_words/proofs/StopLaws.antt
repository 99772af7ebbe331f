-- What comes of files that a run reads one after the other.
use Rattle.std.proofs.Common.{◌≡◌, ℕ, zero, suc, ◌+◌, List, [], ◌∷◌, drop, Some, inl, inr, refl, sym, ap, subst, ◌∙◌, arith}
use Rattle.std.specs.Prelude.{Option}
use Rattle.std.specs.List.{slice_get}
use Rattle.union_io.specs.Causes.{Rose}
use Rattle.union_io.specs.Counts.{SameCounts, SameElsewhere}
use Rattle.union_words.specs.Flows.{ShelfFlow, InputFile, FailsAt}
use Rattle.union_words.specs.Stops.{StopsAt, StopsAmong, input_of, inputs_of}
use Rattle.union_words.specs.Words.{LibraryFile}
use Rattle.union_words.specs.declared.input.Input.{Input}
use Rattle.union_words.specs.declared.status.Status.{Status}
use Rattle.union_words.specs.declared.status.Status.TheVariants.{Done, DoneWithRefusals, Usage, OpenFault, ReadFault, WriteFault, TooLong, Memory}

-- the counts of a shelf
abbrev pub Counts : Type 0
Counts = List ℕ → ℕ

abbrev pub flow : Option (List ℕ → List ℕ) → Counts → Counts → ShelfFlow
flow files before after = record { files = files; before = before; after = after }

pub same_more : (a b c : Counts) → SameCounts a b → SameCounts b c → SameCounts a c
same_more a b c p q = λ name. q name ∙ p name

fails_before : (input : Input) (inputs : List InputFile) (files : Option (List ℕ → List ℕ)) (a b c : Counts) → SameCounts a b
    → FailsAt inputs (flow files b c) input → FailsAt inputs (flow files a c) input
fails_before input inputs files a b c same fails = record {
  file = fails.file;
  one = fails.one;
  named = fails.named;
  failed = subst (λ count. Rose count (c fails.file.path)) (same fails.file.path) fails.failed;
  others = λ name differs. fails.others name differs ∙ same name;
}

-- a run that stops at a file, seen from a moment since which nothing failed
pub stops_before : (status : Status) (file : InputFile) (files : Option (List ℕ → List ℕ)) (a b c : Counts) → SameCounts a b
    → StopsAt status file (flow files b c) → StopsAt status file (flow files a c)
stops_before (OpenFault input) file files a b c same stops = fails_before input (file ∷ []) files a b c same stops
stops_before (ReadFault input) file files a b c same stops = fails_before input (file ∷ []) files a b c same stops
stops_before (TooLong input) file files a b c same stops = (same_more a b c same stops.0, stops.1, stops.2)
stops_before Memory file files a b c same stops = same_more a b c same stops
stops_before Done file files a b c same stops = absurd stops
stops_before DoneWithRefusals file files a b c same stops = absurd stops
stops_before Usage file files a b c same stops = absurd stops
stops_before WriteFault file files a b c same stops = absurd stops

-- a file that could not be opened
pub not_opened : (file : InputFile) (files : Option (List ℕ → List ℕ)) (a b : Counts) → Rose (a file.path) (b file.path) → SameElsewhere a b file.path
    → FailsAt (file ∷ []) (flow files a b) file.input
not_opened file files a b rose others = record {
  file = file;
  one = inl refl;
  named = refl;
  failed = rose;
  others = others;
}

-- a run that stops with the files at hand for want of memory
pub stops_memory : (inputs : List InputFile) (shelf : ShelfFlow) → SameCounts shelf.before shelf.after → StopsAmong Memory inputs shelf
stops_memory [] shelf same = (refl, same)
stops_memory (file ∷ rest) shelf same = inl same

-- what is left from a place on begins with what stands there
pub drop-get : {X : Type 0} (xs : List X) (n : ℕ) (x : X) → slice_get xs n ≡ Some x → drop n xs ≡ x ∷ drop (n + 1) xs
drop-get [] n x h = cc
drop-get (y ∷ xs) zero x h =
    let same : y ≡ x = cc in
    ap (λ z. z ∷ xs) same
drop-get (y ∷ xs) (suc n) x h =
    let moved : suc n + 1 ≡ suc (n + 1) = omega arith in
    drop-get xs n x h ∙ sym (ap (λ k. x ∷ drop k (y ∷ xs)) moved)

-- a run that stops at a file after this one
pub stops-next : (status : Status) (all : List LibraryFile) (place : ℕ) (file : LibraryFile) (shelf : ShelfFlow) → slice_get all place ≡ Some file
    → StopsAmong status (inputs_of (drop (place + 1) all)) shelf → StopsAmong status (inputs_of (drop place all)) shelf
stops-next status all place file shelf here h =
    subst (λ files. StopsAmong status (inputs_of files) shelf) (sym (drop-get all place file here)) (inr h)

-- a run that stops at this one
pub stops-here : (status : Status) (all : List LibraryFile) (place : ℕ) (file : LibraryFile) (files now : Option (List ℕ → List ℕ)) (a b c : Counts)
    → slice_get all place ≡ Some file → now ≡ files → SameCounts a b → StopsAt status (input_of file) (flow now b c)
    → StopsAmong status (inputs_of (drop place all)) (flow files a c)
stops-here status all place file files now a b c here told same stops =
    subst (λ those. StopsAmong status (inputs_of those) (flow files a c)) (sym (drop-get all place file here))
    (inl (stops_before status (input_of file) files a b c same (subst (λ t. StopsAt status (input_of file) (flow t b c)) told stops)))
