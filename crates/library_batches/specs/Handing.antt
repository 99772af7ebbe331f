-- What the batches that a reader handed out are.
use Rattle.std.specs.Prelude.{◌≡◌, ℕ, ◌≤◌, ⊤, nat_lt, List, ◌++◌, length, take, Option, Some, None}
use Rattle.iso2709_frame.specs.Frames.{frames}
use Rattle.library_stream.specs.Streaming.{is_too_long}
use Rattle.catalogue_editions.specs.declared.batch.Batch.{Batch}
use Rattle.library_batches.specs.Refused.{refused}
use Rattle.library_batches.specs.Batches.{AreBatches, AreFirstBatches}
use Rattle.library_batches.specs.Reading.{Batching, begun, ahead, KeepsFrames}

-- a reader that began at that limit, on a source that had these bytes, handed out these batches in turn; now it is this one,
-- and the source has that rest
pub record HandedOut (prefer : List (List ℕ)) (library : List ℕ) (limit : ℕ) (bytes : List ℕ) (done : List Batch) (now : Batching)
    (rest : List ℕ) : Type 0 where
  pub keeps : KeepsFrames (begun prefer library limit) (frames (take limit bytes)) now (ahead now rest)
  pub all : (later : List Batch) → AreBatches prefer library (ahead now rest) later
      → AreBatches prefer library (frames (take limit bytes)) (done ++ later)
  pub first : (later : List Batch) → AreFirstBatches prefer library (ahead now rest) later
      → AreFirstBatches prefer library (frames (take limit bytes)) (done ++ later)
  pub too_long : is_too_long now.stream rest ≡ nat_lt limit (length bytes)

-- the same where the source may not tell its bytes
abbrev pub HandsOut : List (List ℕ) → List ℕ → ℕ → Option (List ℕ) → List Batch → Batching → Option (List ℕ) → Type 0
HandsOut prefer library limit None done now left = ⊤
HandsOut prefer library limit (Some bytes) done now None = ⊥
HandsOut prefer library limit (Some bytes) done now (Some rest) = HandedOut prefer library limit bytes done now rest

-- the whole source was read, these are all its batches, and its frames were counted and the refused ones kept
pub record IsRead (prefer : List (List ℕ)) (library : List ℕ) (limit : ℕ) (bytes : List ℕ) (done : List Batch) (now : Batching) : Type 0 where
  pub fits : length bytes ≤ limit
  pub all : AreBatches prefer library (frames bytes) done
  pub frames_are : now.frames ≡ length (frames bytes)
  pub refused_are : now.refused ≡ refused (frames bytes)
