-- Blocks of frames that are cut first, and then checked by several workers.
use Rattle.std.specs.Prelude.{◌≡◌, ℕ, ◌+◌, ◌≤◌, ◌<◌, All, Bool, true, false, List, [], ◌∷◌, ◌++◌, length, Option, Result, Ok, Err, IfOk, slice_index_or}
use Rattle.std.specs.List.{flat_map}
use Rattle.library_stream.specs.Streaming.{Streaming, most_ahead}
use Rattle.library_stream.specs.declared.course.Course.TheVariants.{Ended}
use Rattle.library_batches.specs.Streams.{Frame}
use Rattle.library_batches.specs.Batches.{block_size, round_size}
use Rattle.library_batches.specs.Blocks.{AnswersCut}
use Rattle.library_batches.specs.Shares.{IsShare}
use Rattle.library_batches.specs.declared.work.Work.{Work}
use Rattle.library_batches.specs.declared.stop.Stop.{Stop}

-- the frames of the block were checked, and nothing else of it changed
pub record IsDone (prefer : List (List ℕ)) (library : List ℕ) (before now : Work) : Type 0 where
  pub first : now.first ≡ before.first
  pub frames : now.frames.items ≡ before.frames.items
  pub made : IfOk now.made (IsShare prefer library now.first now.frames.items)

-- the frames of the block were checked, and it has no more than a block may have
pub record IsMade (prefer : List (List ℕ)) (library : List ℕ) (work : Work) : Type 0 where
  pub made : IfOk work.made (IsShare prefer library work.first work.frames.items)
  pub short : length work.frames.items ≤ block_size

-- those of each block were
pub record AreDone (prefer : List (List ℕ)) (library : List ℕ) (before now : List Work) : Type 0 where
  pub long : length now ≡ length before
  pub each : (place : ℕ) (other : Work) → place < length before → IsDone prefer library (slice_index_or before place other) (slice_index_or now place other)

-- the frames of all blocks
abbrev pub frames_of : List Work → List Frame
frames_of works = flat_map (λ work. work.frames.items) works

-- each block begins at the number after those of the blocks before it
abbrev pub AreNumbered : ℕ → List Work → Type 0
AreNumbered first [] = Unit {0}
AreNumbered first (work ∷ works) = (work.first ≡ first) × AreNumbered (first + length work.frames.items) works

-- the frames of the blocks were cut, one block after the other, each of which is whole, unless the source ended within it
abbrev pub AreCut : List Work → Streaming → Option (List ℕ) → Streaming → Option (List ℕ) → Type 0
AreCut [] before left now left' = (now ≡ before) × (left' ≡ left)
AreCut (work ∷ works) before left now left' =
    (ended : Bool) × (between : Streaming) × (told : Option (List ℕ)) × AnswersCut (Ok ended) before left between told work.frames.items
    × (length work.frames.items ≤ block_size) × (most_ahead between + length work.frames.items ≤ most_ahead before)
    × AreCut works between told now left'

-- one more block was cut, whose first frame has that number
pub record AddsWork (result : Result Bool Stop) (first : ℕ) (before : Streaming) (left : Option (List ℕ)) (now : Streaming) (left' : Option (List ℕ))
    (works works' : List Work) : Type 0 where
  pub work : Work
  pub added : works' ≡ works ++ work ∷ []
  pub number : work.first ≡ first
  pub cut : AnswersCut result before left now left' work.frames.items
  pub most : length work.frames.items ≤ block_size
  pub fewer : most_ahead now + length work.frames.items ≤ most_ahead before

-- the cutting went on so far, or stopped behind these frames
abbrev pub AnswersWorks : Result Bool Stop → Streaming → Option (List ℕ) → Streaming → Option (List ℕ) → List Work → Type 0
AnswersWorks (Ok true) before left now left' works = AreCut works before left now left' × (now.course ≡ Ended)
AnswersWorks (Ok false) before left now left' works = AreCut works before left now left'
AnswersWorks (Err stop) before left now left' works = AnswersCut (Err stop) before left now left' (frames_of works)

-- the blocks of a round, the first frame of which has that number, were cut, or their cutting stopped
pub record CutsRound (result : Result Bool Stop) (first : ℕ) (before : Streaming) (left : Option (List ℕ)) (now : Streaming) (left' : Option (List ℕ))
    (works : List Work) : Type 0 where
  pub answers : AnswersWorks result before left now left' works
  pub numbered : AreNumbered first works
  pub short : All (λ work. length work.frames.items ≤ block_size) works
  pub most : length (frames_of works) ≤ round_size
  pub some : result ≡ Ok false → 0 < length (frames_of works)
  pub fewer : most_ahead now + length (frames_of works) ≤ most_ahead before
