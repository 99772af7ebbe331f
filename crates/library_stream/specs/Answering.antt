-- What an answer says of the frames ahead, and of the source.
use Rattle.std.specs.Prelude.{ℕ, ◌≡◌, ◌≢◌, ◌<◌, ◌≤◌, ⊤, nat_lt, List, [], ◌∷◌, ◌++◌, length, take, Option, Some, None, IfSome}
use Rattle.iso2709_frame.specs.declared.cut.Cut.{Cut}
use Rattle.iso2709_frame.specs.declared.cut.Cut.TheVariants.{Whole, Truncated}
use Rattle.iso2709_frame.specs.Cutting.{told}
use Rattle.iso2709_frame.specs.Frames.{frames, IsWhole}
use Rattle.union_io.specs.Causes.{Rose}
use Rattle.library_stream.specs.declared.course.Course.{Course}
use Rattle.library_stream.specs.declared.course.Course.TheVariants.{Ended}
use Rattle.library_stream.specs.declared.answer.Next.{Next}
use Rattle.library_stream.specs.declared.answer.Next.TheVariants.{Frame, End, TooLong, Failed}
use Rattle.library_stream.specs.Streaming.{Streaming, frames_ahead, is_too_long, bytes_within, passes, stopped}

-- where the source tells what it has left: the frames that were ahead are the taken ones and then those that are ahead now,
-- and whether the source is too long is as it was
abbrev pub Takes : Streaming → Option (List ℕ) → Streaming → Option (List ℕ) → List (Cut × List ℕ) → Type 0
Takes before None now left taken = ⊤
Takes before (Some bytes) now None taken = ⊥
Takes before (Some bytes) now (Some rest) taken =
    (frames_ahead before bytes ≡ taken ++ frames_ahead now rest) × (is_too_long before bytes ≡ is_too_long now rest)

-- no frame that ends within the limit was ahead: at most a rest that the limit cuts off, which is not handed out
pub record StopsAtLimit (before : Streaming) (left : Option (List ℕ)) (now : Streaming) (left' : Option (List ℕ)) : Type 0 where
  pub rest : Option Cut
  pub cut_off : IfSome rest (λ cut. cut ≡ Truncated)
  pub takes : Takes before left now left' (told rest [])
  pub stands : now ≡ stopped

-- of a source that fits the limit, these are all the frames
pub record AllHanded (limit : ℕ) (bytes : List ℕ) (handed : List (Cut × List ℕ)) : Type 0 where
  pub fits : length bytes ≤ limit
  pub all : frames bytes ≡ handed

-- of a source that passes the limit, these are the frames that end within it: at most a rest is after them
pub record FrontHanded (limit : ℕ) (bytes : List ℕ) (handed : List (Cut × List ℕ)) : Type 0 where
  pub passes : limit < length bytes
  pub rest : Option Cut
  pub cut_off : IfSome rest (λ cut. cut ≡ Truncated)
  pub front : frames (take limit bytes) ≡ handed ++ told rest []

-- a frame: the first one that was ahead. The end: none was ahead, and the source is not too long. Too long: so it is, and
-- each frame that ends within the limit was handed out. Failed: as many frames are ahead as were
abbrev pub AnswersFrame : Next → Streaming → Option (List ℕ) → Streaming → Option (List ℕ) → Type 0
AnswersFrame (Frame cut) before left now left' = Takes before left now left' ((cut, now.frame) ∷ [])
AnswersFrame End before left now left' = Takes before left now left' [] × (now.course ≡ Ended)
AnswersFrame TooLong before left now left' = StopsAtLimit before left now left'
AnswersFrame Failed before left now left' = Takes before left now left' []

-- a failure raises the count of faults, and no other answer changes it
abbrev pub CountsFault : Next → ℕ → ℕ → Type 0
CountsFault (Frame cut) before now = now ≡ before
CountsFault End before now = now ≡ before
CountsFault TooLong before now = now ≡ before
CountsFault Failed before now = (before ≤ now) × Rose before now

-- fewer frames can still be handed out after a frame, and after another answer no more than could
abbrev pub Fewer : Next → ℕ → ℕ → Type 0
Fewer (Frame cut) before now = now < before
Fewer End before now = now ≤ before
Fewer TooLong before now = now ≤ before
Fewer Failed before now = now ≤ before

-- what is lent with the cut of a frame: a whole frame, and nothing where the frame is not whole
abbrev pub LendsCut : Cut → List ℕ → Type 0
LendsCut cut frame = (cut ≡ Whole → IsWhole frame) × (cut ≢ Whole → frame ≡ [])

-- what is lent with an answer
abbrev pub Lends : Next → List ℕ → Type 0
Lends (Frame cut) frame = LendsCut cut frame
Lends End frame = frame ≡ []
Lends TooLong frame = frame ≡ []
Lends Failed frame = frame ≡ []

-- what a read with so much room to the limit leaves unread, and how far the source was read then
abbrev pub ReadsWithin : Option (List ℕ) → ℕ → Option (List ℕ) → List ℕ → Course → Type 0
ReadsWithin None room now unread course = ⊤
ReadsWithin (Some bytes) room None unread course = ⊥
ReadsWithin (Some bytes) room (Some rest) unread course =
    (take room bytes ≡ unread ++ bytes_within course rest) × (nat_lt room (length bytes) ≡ passes course rest)

-- a step of the reader: without an answer the same frames are ahead
abbrev pub Steps : Option Next → Streaming → Option (List ℕ) → Streaming → Option (List ℕ) → Type 0
Steps None before left now left' = Takes before left now left' []
Steps (Some answer) before left now left' = AnswersFrame answer before left now left'

-- the answer on a source that ended, by the frames of what waits then
abbrev pub IsLast : Next → List (Cut × List ℕ) → Type 0
IsLast (Frame cut) left = left ≡ (cut, []) ∷ []
IsLast End left = left ≡ []
IsLast TooLong left = ⊥
IsLast Failed left = ⊥
