-- The batches of a round, which several workers check.
use Rattle.std.specs.Prelude.{◌≡◌, ℕ, ◌+◌, ◌≤◌, ◌<◌, true, false, List, ◌++◌, length, Option, Result, Ok, Err}
use Rattle.library_stream.specs.Streaming.{Streaming, most_ahead}
use Rattle.library_stream.specs.declared.course.Course.TheVariants.{Ended}
use Rattle.catalogue_editions.specs.declared.batch.Batch.{Batch}
use Rattle.library_batches.specs.Reading.{Batching, AnswersEach, IsLostByRounds}
use Rattle.library_batches.specs.Passing.{Passes}
use Rattle.library_batches.specs.Refused.{refused_from}
use Rattle.library_batches.specs.Blocks.{BlockAnswers}
use Rattle.library_batches.specs.Works.{AreCut, AreNumbered, frames_of}
use Rattle.library_batches.specs.declared.refused.RefusedFrame.{RefusedFrame}
use Rattle.library_batches.specs.declared.several.Round.{Round}
use Rattle.library_batches.specs.declared.stop.Stop.{Stop}
use Rattle.library_batches.specs.declared.work.Work.{Work}

-- the batches were answered one after the other, and blocks without a batch were passed after them
pub record HandsRound (before : Batching) (left : Option (List ℕ)) (now : Batching) (left' : Option (List ℕ)) (batches : List Batch) : Type 0 where
  pub between : Batching
  pub told : Option (List ℕ)
  pub each : AnswersEach batches before left between told
  pub passes : Passes between told now left'

-- a reader of this preference and this library
abbrev pub reader_at : List (List ℕ) → List ℕ → Streaming → ℕ → List RefusedFrame → Batching
reader_at prefer library stream frames refused =
    record { prefer = prefer; library = library; stream = stream; frames = frames; refused = refused }

-- checked blocks gave these batches, wherever they were cut, and their refused frames were added
pub record AreGiven (prefer : List (List ℕ)) (library : List ℕ) (works : List Work) (refused later : List RefusedFrame) (batches : List Batch) : Type 0 where
  pub given : (frames : ℕ) (before now : Streaming) (left left' : Option (List ℕ)) → AreNumbered (frames + 1) works → AreCut works before left now left'
      → HandsRound (reader_at prefer library before frames refused) left
      (reader_at prefer library now (frames + length (frames_of works)) later) left' batches
  pub few : length batches ≤ length (frames_of works)
  pub refuses : (start : ℕ) → AreNumbered start works → later ≡ refused ++ refused_from start (frames_of works)

-- what an answer on a round says
pub record IsRound (before : Batching) (left : Option (List ℕ)) (now : Batching) (left' : Option (List ℕ)) (round : Round) : Type 0 where
  pub hands : HandsRound before left now left' round.batches.items
  pub ended : round.ended ≡ true → now.stream.course ≡ Ended
  pub fewer : most_ahead now.stream + length round.batches.items ≤ most_ahead before.stream
  -- where the source goes on, so does the reader: a measure for a caller's loop, also where no frame is accepted
  pub more : round.ended ≡ false → most_ahead now.stream < most_ahead before.stream

abbrev pub RoundAnswers : Result Round Stop → Batching → Option (List ℕ) → Batching → Option (List ℕ) → Type 0
RoundAnswers (Ok round) before left now left' = IsRound before left now left' round
RoundAnswers (Err stop) before left now left' = BlockAnswers IsLostByRounds (Err stop) before left now left'
