-- The first library whose file has the name of one that could not be read.
use Rattle.std.proofs.Common.{◌≡◌, ◌≢◌, ℕ, zero, suc, ◌<◌, List, [], ◌∷◌, refl, sym, ap, subst, inl, inr, arith}
use Rattle.std.specs.Prelude.{Some, slice_get}
use Rattle.union_files.specs.Inputs.{FailsEarliest, IsEarliest, IsElsewhere, input_of, inputs_of}
use Rattle.union_io.specs.Causes.{Rose}
use Rattle.union_io.specs.Counts.{SameElsewhere}
use Rattle.union_words.specs.Flows.{ShelfFlow}
use Rattle.union_words.specs.Words.{LibraryFile}
use Rattle.union_words.specs.declared.input.Input.TheVariants.{Library}

-- a name that no input has is not that of the file at a place
elsewhere_at : (files : List LibraryFile) (place : ℕ) (other : LibraryFile) (name : List ℕ) → slice_get files place ≡ Some other
    → IsElsewhere name (inputs_of files) → other.path ≢ name
elsewhere_at [] place other name at none = absurd cc
elsewhere_at (file ∷ files) zero other name at none = let is : file ≡ other = cc at in subst (λ (f : LibraryFile). f.path ≢ name) is none.0
elsewhere_at (file ∷ files) (suc place) other name at none = elsewhere_at files place other name at none.1

earliest : (files : List LibraryFile) (first : ℕ) (file : LibraryFile) (path : List ℕ) (shelf : ShelfFlow) → slice_get files first ≡ Some file
    → ((earlier : ℕ) (before : LibraryFile) → earlier < first → slice_get files earlier ≡ Some before → before.path ≢ path)
    → SameElsewhere shelf.before shelf.after path → IsEarliest shelf (input_of file) (inputs_of files)
earliest [] first file path shelf at others same = absurd cc
earliest (head ∷ files) zero file path shelf at others same = let is : file ≡ head = cc at in inl (ap input_of is)
earliest (head ∷ files) (suc first) file path shelf at others same =
    inr (
      same head.path (others 0 head (omega arith) refl),
      earliest files first file path shelf at (λ earlier before low there. others (suc earlier) before (omega (arith, low)) there) same,
    )

pub fails_first : (files : List LibraryFile) (place first : ℕ) (file other : LibraryFile) (shelf : ShelfFlow) → slice_get files place ≡ Some other
    → slice_get files first ≡ Some file → file.path ≡ other.path
    → ((earlier : ℕ) (before : LibraryFile) → earlier < first → slice_get files earlier ≡ Some before → before.path ≢ other.path)
    → Rose (shelf.before other.path) (shelf.after other.path) → SameElsewhere shelf.before shelf.after other.path
    → FailsEarliest (inputs_of files) shelf (Library file.library)
fails_first files place first file other shelf there at same earlier rose elsewhere = record {
  file = input_of file;
  one = earliest files first file other.path shelf at earlier elsewhere;
  named = refl;
  failed = subst (λ path. Rose (shelf.before path) (shelf.after path)) (sym same) rose;
  others = λ name none. elsewhere name (λ is. elsewhere_at files place other name there none (sym is));
}
