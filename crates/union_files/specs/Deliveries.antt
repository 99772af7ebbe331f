-- What libraries deliver, the batches that it makes, and the report on it.
use Rattle.std.specs.Prelude.{◌≢◌, ℕ, Bool, nat_lt, List, [], ◌∷◌, length, map}
use Rattle.std.specs.List.{flat_map, AllByRecursion}
use Rattle.catalogue_editions.specs.declared.batch.Batch.{Batch}
use Rattle.library_batches.specs.Batches.{AreBatches}
use Rattle.library_batches.specs.Outcomes.{found_in}
use Rattle.library_batches.specs.Refused.{refused}
use Rattle.library_batches.specs.Streams.{Frame}
use Rattle.library_batches.specs.Reports.{report_text}

-- the frames of a library's source, and the preference by which their records are loaded: the list of its codes, the best first
pub record Delivery : Type 0 where
  pub prefer : List (List ℕ)
  pub library : List ℕ
  pub frames : List Frame

-- what a library delivers: its frames, loaded by a preference among libraries
abbrev pub delivery : List (List ℕ) → List ℕ → List Frame → Delivery
delivery prefer library frames = record { prefer = prefer; library = library; frames = frames }

-- the libraries' codes
abbrev pub codes_of : List Delivery → List (List ℕ)
codes_of all = map (λ d. d.library) all

-- no code stands twice
abbrev pub AreDistinct : List (List ℕ) → Type 0
AreDistinct [] = Unit {0}
AreDistinct (code ∷ rest) = AllByRecursion (λ other. code ≢ other) rest × AreDistinct rest

-- a frame of it is refused
abbrev pub has_refused : Delivery → Bool
has_refused d = nat_lt 0 (length (refused d.frames))

-- a delivery and its batches
pub record Stream : Type 0 where
  pub prefer : List (List ℕ)
  pub library : List ℕ
  pub frames : List Frame
  pub batches : List Batch
  pub are : AreBatches prefer library frames batches

-- the delivery of a stream
abbrev pub delivered : Stream → Delivery
delivered s = delivery s.prefer s.library s.frames

-- the batches of a stream
abbrev pub batches_of : Stream → List Batch
batches_of s = s.batches

-- the report on it: what came of its operations is what comes of them over no records, since no other library's operations
-- speak of its records
abbrev pub report_of : Stream → List ℕ
report_of s = report_text s.library s.frames (found_in [] s.batches)

-- the reports of streams, in order
abbrev pub reports_of : List Stream → List ℕ
reports_of streams = flat_map report_of streams
