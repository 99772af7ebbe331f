-- What came of the file of each library of a load, and the reports on them.
use Rattle.std.specs.Prelude.{◌≡◌, ℕ, suc, ⊤, Bool, ◌||◌, List, [], ◌∷◌, ◌++◌, map}
use Rattle.std.specs.List.{list_any, flat_map, AllByRecursion}
use Rattle.catalogue_editions.specs.declared.batch.Batch.{Batch}
use Rattle.catalogue_lock.specs.Ended.{Ended}
use Rattle.iso2709_frame.specs.Frames.{frames}
use Rattle.library_batches.specs.Batches.{AreBatches}
use Rattle.library_batches.specs.Tallies.{found}
use Rattle.library_batches.specs.Reports.{report_text}
use Rattle.union_files.specs.Deliveries.{Delivery, delivery, has_refused}
use Rattle.union_words.specs.Words.{LibraryFile}
use Rattle.union_files.specs.declared.reports.Reports.{Reports}

-- what came of a library's file: the preference by which it was loaded, its library, the name of its file, whether a read of it failed,
-- the number of its pass, the batches of its turns, and the history that it has seen
pub record Course : Type 0 where
  pub prefer : List (List ℕ)
  pub library : List ℕ
  pub path : List ℕ
  pub failed : Bool
  pub number : ℕ
  pub own : List Batch
  pub seen : List (ℕ × Batch)

-- the file that a course reads
abbrev pub file_of_course : Course → LibraryFile
file_of_course course = record { library = course.library; path = course.path }

-- what it leaves at the desk
abbrev pub ended_of : Course → Ended Batch
ended_of course = record { number = course.number; own = course.own; seen = course.seen }

-- they have these numbers, one after the other
abbrev pub AreNumbered : ℕ → List Course → Type 0
AreNumbered number [] = ⊤
AreNumbered number (course ∷ courses) = (course.number ≡ number) × AreNumbered (suc number) courses

-- what the library delivers
abbrev pub delivery_of : (List ℕ → List ℕ) → Course → Delivery
delivery_of contents course = delivery course.prefer course.library (frames (contents course.path))

-- its batches are all those of its file
abbrev pub IsWhole : (List ℕ → List ℕ) → Course → Type 0
IsWhole contents course = AreBatches course.prefer course.library (frames (contents course.path)) course.own

-- the report on it, by what came of its batches in the history that it has seen
abbrev pub course_text : (List ℕ → List ℕ) → Course → List ℕ
course_text contents course = report_text course.library (frames (contents course.path)) (found course.seen course.number)

-- they are whole, and their reports were added
pub record AreReported (contents : List ℕ → List ℕ) (courses : List Course) (before now : Reports) : Type 0 where
  pub whole : AllByRecursion (IsWhole contents) courses
  pub text : now.text.items ≡ before.text.items ++ flat_map (course_text contents) courses
  pub refused : now.refused ≡ (before.refused || list_any has_refused (map (delivery_of contents) courses))
