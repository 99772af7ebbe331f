-- Blocks without a batch, which a reader passes.
use Rattle.std.specs.Prelude.{◌≡◌, ℕ, ◌+◌, ⊤, List, ◌++◌, length, Option, Some, None}
use Rattle.library_stream.specs.Streaming.{is_too_long}
use Rattle.catalogue_editions.specs.declared.batch.Batch.{Batch}
use Rattle.library_batches.specs.Streams.{Frame}
use Rattle.library_batches.specs.Refused.{refused_from}
use Rattle.library_batches.specs.Batches.{AreBatches, AreFirstBatches}
use Rattle.library_batches.specs.Reading.{Batching, KeepsFrames, ahead}

-- blocks without a batch were passed: what the batches still to come are, the batches of what was coming are
pub record PassesBlocks (before : Batching) (coming : List Frame) (now : Batching) (still : List Frame) : Type 0 where
  pub keeps : KeepsFrames before coming now still
  pub passed : List Frame
  pub are : coming ≡ passed ++ still
  pub place : now.frames ≡ before.frames + length passed
  pub refused : now.refused ≡ before.refused ++ refused_from (before.frames + 1) passed
  pub all : (later : List Batch) → AreBatches before.prefer before.library still later → AreBatches before.prefer before.library coming later
  pub first : (later : List Batch) → AreFirstBatches before.prefer before.library still later
      → AreFirstBatches before.prefer before.library coming later

-- the same where the source may not tell its bytes
abbrev pub Passes : Batching → Option (List ℕ) → Batching → Option (List ℕ) → Type 0
Passes before None now left = ⊤
Passes before (Some bytes) now None = ⊥
Passes before (Some bytes) now (Some rest) =
    PassesBlocks before (ahead before bytes) now (ahead now rest) × (is_too_long now.stream rest ≡ is_too_long before.stream bytes)
