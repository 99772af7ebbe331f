-- What a reader of frames is, and which frames are ahead of it.
use Rattle.std.specs.Prelude.{ℕ, suc, ◌+◌, Bool, true, false, nat_lt, List, [], ◌++◌, length, take}
use Rattle.iso2709_frame.specs.declared.cut.Cut.{Cut}
use Rattle.iso2709_frame.specs.Cutting.{Cutting}
use Rattle.iso2709_frame.specs.Frames.{frames}
use Rattle.library_stream.specs.declared.course.Course.{Course}
use Rattle.library_stream.specs.declared.course.Course.TheVariants.{Open, Ended, Passed}

-- `pending` is as good as the bytes that wait for the end of their frame: whatever follows, the frames are the same.
-- `unread` are the bytes that the source gave after them. `frame` is the frame that is lent
pub record Streaming : Type 0 where
  pub pending : List ℕ
  pub unread : List ℕ
  pub course : Course
  pub frame : List ℕ

-- a reader with this cutter, so much unread, and a source that was read so far
abbrev pub streaming : Cutting → List ℕ → Course → Streaming
streaming cutter unread course =
    record { pending = cutter.pending; unread = unread; course = course; frame = cutter.frame }

-- a reader that was asked for nothing yet
abbrev pub opened : ℕ → Streaming
opened limit = record { pending = []; unread = []; course = Open limit; frame = [] }

-- a reader that answered too long
abbrev pub stopped : Streaming
stopped = record { pending = []; unread = []; course = Passed; frame = [] }

-- the bytes of those left that are within the limit
abbrev pub bytes_within : Course → List ℕ → List ℕ
bytes_within (Open room) left = take room left
bytes_within Ended left = []
bytes_within Passed left = []

-- the frames of what waits, of what is unread, and of as much of what is left as is within the limit; none after the end
abbrev pub frames_on : Course → List ℕ → List ℕ → List ℕ → List (Cut × List ℕ)
frames_on (Open room) pending unread left = frames (pending ++ (unread ++ take room left))
frames_on Ended pending unread left = []
frames_on Passed pending unread left = frames (pending ++ (unread ++ []))

-- the frames that are still to be handed out, where the source has these bytes left
abbrev pub frames_ahead : Streaming → List ℕ → List (Cut × List ℕ)
frames_ahead reader left = frames_on reader.course reader.pending reader.unread left

-- whether a source that was read so far, and has these bytes left, passes the limit
abbrev pub passes : Course → List ℕ → Bool
passes (Open room) left = nat_lt room (length left)
passes Ended left = false
passes Passed left = true

-- whether a source that has these bytes left is too long
abbrev pub is_too_long : Streaming → List ℕ → Bool
is_too_long reader left = passes reader.course left

-- how many frames a source that was read so far can still give at most, beside those of what is unread: each has a byte at
-- least, and the end may cut one off
abbrev pub most_on : Course → ℕ
most_on (Open room) = suc room
most_on Ended = 0
most_on Passed = 0

-- how many frames can still be handed out at most, whether the source tells its bytes or not
abbrev pub most_ahead : Streaming → ℕ
most_ahead reader = length reader.unread + most_on reader.course
