-- What must hold of a run that reads some files, one after the other, then loads the files of libraries, and writes two texts: the one
-- that it shows, and after it the one that it notes.
use Rattle.std.specs.Prelude.{◌≡◌, ◌≢◌, ℕ, ◌⊎◌, false, IsTrue, List, ◌++◌, Some, IfSome}
use Rattle.std.specs.Io.KnownBytes.{Appends, Keeps}
use Rattle.union_io.specs.Writing.{AppendsFront}
use Rattle.union_files.specs.Limits.{AreWithin, IsTooLongAt, Contents}
use Rattle.union_words.specs.Flows.{ShelfFlow, IsCalm, InputFile, FailsAt, NoneFails, Outflow, HasFailedAt, IsCutOff}
use Rattle.union_words.specs.Statuses.{is_done, is_early, is_input_fault}
use Rattle.union_words.specs.Words.{LibraryFile}
use Rattle.union_words.specs.declared.input.Input.{Input}
use Rattle.union_words.specs.declared.status.Status.{Status}
use Rattle.union_words.specs.declared.status.Status.TheVariants.{Usage, OpenFault, ReadFault, WriteFault, TooLong, Memory}
use Rattle.union_files.specs.Inputs.{inputs_of, FailsEarliest}

-- which texts a run shows and notes of the contents of its files, and how it ends where both are written
abbrev pub RunTexts : Type 1
RunTexts = Contents → (shown noted : List ℕ) → Status → Type 0

-- both texts were written
abbrev pub IsWritten : (List ℕ → List ℕ → Type 0) → Outflow → Outflow → Type 0
IsWritten Are out notes =
    (shown : List ℕ) × (noted : List ℕ) × Are shown noted × Appends out.old out.new shown × Appends notes.old notes.new noted

-- a write of one of them failed
abbrev pub IsWrittenInPart : (List ℕ → List ℕ → Type 0) → Outflow → Outflow → Type 0
IsWrittenInPart Are out notes =
    (shown : List ℕ) × (noted : List ℕ) × Are shown noted × IsCutOff out notes shown noted

-- a prefix of the one that is shown was written
abbrev pub IsBegun : (List ℕ → List ℕ → Type 0) → Outflow → Type 0
IsBegun Are out = (shown : List ℕ) × (noted : List ℕ) × Are shown noted × AppendsFront out.old out.new shown

-- what must hold of a run that reads the files `first` and then those of the libraries: for each status, what failed or which file is too
-- long, and how much of its two texts was written
pub record IsRunOver (first : List InputFile) (libraries : List LibraryFile) (AreTexts : RunTexts) (shelf : ShelfFlow)
    (out notes : Outflow) (status : Status) : Type 0 where
  -- what failed, where something did: one of the first files, or else, once these were read, one of the libraries' files. Under no
  -- other name did anything fail
  pub open_fault : (i : Input) → status ≡ OpenFault i → FailsAt (first ++ inputs_of libraries) shelf i
  pub read_fault : (i : Input) → status ≡ ReadFault i → FailsAt first shelf i ⊎ FailsEarliest (inputs_of libraries) shelf i
  pub calm : is_input_fault status ≡ false → IsCalm shelf
  pub write_fault : status ≡ WriteFault → (HasFailedAt out × Keeps notes.old notes.new) ⊎ HasFailedAt notes
  pub other : status ≢ Usage
  -- which file is too long
  pub too_long : (i : Input) → status ≡ TooLong i → IfSome shelf.files (λ contents. IsTooLongAt contents (first ++ inputs_of libraries) i)
  -- all of both texts; none of the first; or a prefix of one, where the second is begun only when the first is written whole
  pub done : IsTrue (is_done status) → IfSome shelf.files (λ contents. AreWithin contents (first ++ inputs_of libraries)
      × IsWritten (λ shown noted. AreTexts contents shown noted status) out notes)
  pub untouched : IsTrue (is_early status) → status ≢ Memory → Keeps out.old out.new
  pub memory : status ≡ Memory → Keeps out.old out.new ⊎ IfSome shelf.files (λ contents. AreWithin contents (first ++ inputs_of libraries)
      × ((end : Status) × IsBegun (λ shown noted. AreTexts contents shown noted end) out))
  pub part : status ≡ WriteFault → IfSome shelf.files (λ contents. AreWithin contents (first ++ inputs_of libraries)
      × ((end : Status) × IsWrittenInPart (λ shown noted. AreTexts contents shown noted end) out notes))
  -- if nothing fails, a file that is too long is named, and a run without one is done; or memory ran out
  pub too_long_where : (contents : Contents) (i : Input) → shelf.files ≡ Some contents → IsTooLongAt contents (first ++ inputs_of libraries) i
      → NoneFails (first ++ inputs_of libraries) shelf → (status ≡ TooLong i) ⊎ (status ≡ Memory)
  pub complete : (contents : Contents) → shelf.files ≡ Some contents → AreWithin contents (first ++ inputs_of libraries)
      → NoneFails (first ++ inputs_of libraries) shelf → ¬ HasFailedAt out → ¬ HasFailedAt notes
      → IsTrue (is_done status) ⊎ (status ≡ Memory)
