-- What the reading of one block of a source's frames gives.
use Rattle.std.specs.Prelude.{◌≡◌, ℕ, ◌+◌, ◌≤◌, Bool, true, false, IsTrue, List, ◌++◌, length, Option, Result, Ok, Err}
use Rattle.std.specs.List.{AllZip, list_all}
use Rattle.library_stream.specs.Streaming.{Streaming, stopped, most_ahead}
use Rattle.library_stream.specs.Answering.{Takes}
use Rattle.library_stream.specs.declared.course.Course.TheVariants.{Ended}
use Rattle.catalogue_editions.specs.Batches.{is_own_op}
use Rattle.catalogue_editions.specs.declared.op.Op.{Op}
use Rattle.library_batches.specs.Streams.{Frame, accepted}
use Rattle.library_batches.specs.Refused.{refused_from}
use Rattle.library_batches.specs.Batches.{IsOpOf, block_size}
use Rattle.library_batches.specs.Reading.{Batching, Losses, IsLost}
use Rattle.library_batches.specs.declared.block.Block.{Block}
use Rattle.library_batches.specs.declared.refused.RefusedFrame.{RefusedFrame}
use Rattle.library_batches.specs.declared.stop.Stop.{Stop}
use Rattle.library_batches.specs.declared.stop.Stop.TheVariants.{TooLong, Failed, Memory}

-- the frames, numbered from that number on, were checked: the accepted ones asked for these operations, and the refused ones
-- were added to those that were refused before
pub record IsChecked (prefer : List (List ℕ)) (library : List ℕ) (start : ℕ) (taken : List Frame) (ops : List Op)
    (before now : List RefusedFrame) : Type 0 where
  pub asked : AllZip (IsOpOf prefer library) (accepted taken) ops
  pub own : IsTrue (list_all (is_own_op library) ops)
  pub refused : now ≡ before ++ refused_from start taken

-- a block is whole, unless the source ended within it
abbrev pub IsFull : Bool → Streaming → ℕ → Type 0
IsFull true reader frames = reader.course ≡ Ended
IsFull false reader frames = frames ≡ block_size

-- a block of the frames that were ahead
pub record IsBlock (before : Batching) (left : Option (List ℕ)) (now : Batching) (left' : Option (List ℕ)) (block : Block) : Type 0 where
  pub taken : List Frame
  pub takes : Takes before.stream left now.stream left' taken
  pub checked : IsChecked before.prefer before.library (before.frames + 1) taken block.ops.items before.refused now.refused
  pub frames : now.frames ≡ before.frames + length taken
  pub most : length taken ≤ block_size
  pub full : IsFull block.ended now.stream (length taken)
  pub fewer : most_ahead now.stream + length taken ≤ most_ahead before.stream

-- the reading of a block stopped behind frames that were taken: the first of them were checked, and the refused ones among those are kept
pub record StopsBlock (IsLostThen : List Frame → Type 0) (before : Batching) (left : Option (List ℕ)) (now : Batching) (left' : Option (List ℕ)) : Type 0 where
  pub checked : List Frame
  pub lost : List Frame
  pub takes : Takes before.stream left now.stream left' (checked ++ lost)
  pub lost_are : IsLostThen lost
  pub refused : now.refused ≡ before.refused ++ refused_from (before.frames + 1) checked

-- what an answer on a block says
abbrev pub BlockAnswers : Losses → Result Block Stop → Batching → Option (List ℕ) → Batching → Option (List ℕ) → Type 0
BlockAnswers Are (Ok block) before left now left' = IsBlock before left now left' block
BlockAnswers Are (Err TooLong) before left now left' = StopsBlock (Are TooLong) before left now left' × (now.stream ≡ stopped)
BlockAnswers Are (Err Failed) before left now left' = StopsBlock (Are Failed) before left now left'
BlockAnswers Are (Err Memory) before left now left' = StopsBlock (Are Memory) before left now left'

-- the cutting of a block stopped behind frames that were kept, and those that were lost
abbrev pub StopsCut : (List Frame → Type 0) → Streaming → Option (List ℕ) → Streaming → Option (List ℕ) → List Frame → Type 0
StopsCut IsLostThen before left now left' kept = (lost : List Frame) × Takes before left now left' (kept ++ lost) × IsLostThen lost

-- what an answer on the cutting of a block says of the frames that were kept: these were ahead, and the block is full, unless the
-- source ended within it
abbrev pub AnswersCut : Result Bool Stop → Streaming → Option (List ℕ) → Streaming → Option (List ℕ) → List Frame → Type 0
AnswersCut (Ok ended) before left now left' taken = Takes before left now left' taken × IsFull ended now (length taken)
AnswersCut (Err TooLong) before left now left' taken = StopsCut (IsLost TooLong) before left now left' taken × (now ≡ stopped)
AnswersCut (Err Failed) before left now left' taken = StopsCut (IsLost Failed) before left now left' taken
AnswersCut (Err Memory) before left now left' taken = StopsCut (IsLost Memory) before left now left' taken
