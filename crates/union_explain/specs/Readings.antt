-- What is ahead of a reader, and what it gives of that.
use Rattle.std.specs.Prelude.{◌≡◌, ◌<◌, ◌+◌, ℕ, suc, ⊤, Bool, true, false, List, [], ◌∷◌, ◌++◌, length, drop, Option, Some, None, IfSome, MatchResult}
use Rattle.std.specs.declared.result.Result.{Result}
use Rattle.std.specs.Option.{option_map}
use Rattle.std.specs.List.{slice_get}
use Rattle.library_batches.specs.Reading.{most_bytes}
use Rattle.union_io.specs.Causes.{Rose}
use Rattle.union_explain.specs.declared.stop.Stop.{Stop}
use Rattle.union_explain.specs.declared.stop.Stop.TheVariants.{Failed, TooLong, Memory}

-- a reader of bytes: those that were read and not yet given, and how many were given
pub record Reading : Type 0 where
  pub unread : List ℕ
  pub at : ℕ

-- the bytes that are still to be given, where the source tells what it has left
abbrev pub ahead : List ℕ → Option (List ℕ) → Option (List ℕ)
ahead unread left = option_map (λ bytes. unread ++ bytes) left

-- the answer is the first of what was ahead, and the rest is ahead now; None is the end
abbrev pub Gives : {T : Type 0} → Option (List T) → Option (List T) → Option T → Type 0
Gives None after answer = ⊤
Gives (Some all) None answer = ⊥
Gives (Some all) (Some rest) None = (all ≡ []) × (rest ≡ [])
Gives (Some all) (Some rest) (Some first) = all ≡ first ∷ rest

-- the answer is that of what was ahead with `count` before it, and what comes after that is ahead now; None where there are
-- no more than `count`
abbrev pub Finds : {T : Type 0} → ℕ → Option (List T) → Option (List T) → Option T → Type 0
Finds count None after answer = ⊤
Finds count (Some all) None answer = ⊥
Finds count (Some all) (Some rest) answer = (slice_get all count ≡ answer) × (rest ≡ drop (suc count) all)

-- the same is ahead, and nothing where no byte is there
abbrev pub Fills : Option (List ℕ) → Option (List ℕ) → Bool → Type 0
Fills None after some = ⊤
Fills (Some all) None some = ⊥
Fills (Some all) (Some rest) true = all ≡ rest
Fills (Some all) (Some rest) false = (all ≡ []) × (rest ≡ [])

-- a failure raises the count of faults, and nothing else changes it
abbrev pub CountsStop : Stop → ℕ → ℕ → Type 0
CountsStop Failed before now = Rose before now
CountsStop TooLong before now = now ≡ before
CountsStop Memory before now = now ≡ before

-- what an answer says of the count of faults: it is the same, but for a stop that counts
abbrev pub CountsFaults : {T : Type 0} → ℕ → ℕ → Result T Stop → Type 0
CountsFaults before now result = MatchResult result (λ _. now ≡ before) (λ stop. CountsStop stop before now)

-- as many bytes in all as before, of those that were given and those that are ahead
abbrev pub GoesOn : ℕ → Option (List ℕ) → ℕ → Option (List ℕ) → Type 0
GoesOn at None now after = ⊤
GoesOn at (Some all) now None = ⊥
GoesOn at (Some all) now (Some rest) = at + length all ≡ now + length rest

-- more than 2^40 bytes in all
abbrev pub IsLong : ℕ → Option (List ℕ) → Type 0
IsLong at left = IfSome left (λ bytes. most_bytes < at + length bytes)

-- what a reader has ahead, of a source that has so much left
abbrev pub bytes_ahead : Reading → Option (List ℕ) → Option (List ℕ)
bytes_ahead reader left = ahead reader.unread left

-- a byte is there to be given, or the end was reached: of a reader and what its source has left, before and after
abbrev pub FillsReader : Reading → Option (List ℕ) → Reading → Option (List ℕ) → Bool → Type 0
FillsReader old before new after some = Fills (bytes_ahead old before) (bytes_ahead new after) some

-- the next byte is given
abbrev pub GivesByte : Reading → Option (List ℕ) → Reading → Option (List ℕ) → Option ℕ → Type 0
GivesByte old before new after byte = Gives (bytes_ahead old before) (bytes_ahead new after) byte

-- no byte is passed over
abbrev pub ReaderGoesOn : Reading → Option (List ℕ) → Reading → Option (List ℕ) → Type 0
ReaderGoesOn old before new after = GoesOn old.at (bytes_ahead old before) new.at (bytes_ahead new after)
