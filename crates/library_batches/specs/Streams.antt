-- What the stream of a library says: which of its frames are refused, and the records of the others.
use Rattle.std.specs.Prelude.{ℕ, Bool, List, [], ◌∷◌, map, filter, Option, is_none}
use Rattle.iso2709_frame.specs.declared.cut.Cut.{Cut}
use Rattle.marc_fields.specs.Spelling.{Spells}
use Rattle.marc_parts.specs.declared.marc_record.Record.{Record}
use Rattle.marc_fields.specs.declared.rules.Failure.{Failure}
use Rattle.marc_rules.specs.NineteenRules.{first_rule}

-- a frame of a stream: how it was cut, and its bytes where it is whole
abbrev pub Frame : Type 0
Frame = Cut × List ℕ

-- the first rule that the frame breaks, with its place
abbrev pub failure_of : Frame → Option Failure
failure_of frame = first_rule frame.0 frame.1

-- a frame that breaks no rule is accepted, and any other is refused
abbrev pub is_accepted : Frame → Bool
is_accepted frame = is_none (failure_of frame)

-- the bytes of the accepted ones of the frames, in their order
abbrev pub accepted : List Frame → List (List ℕ)
accepted all = map (λ frame. frame.1) (filter is_accepted all)

-- each of the accepted frames spells the record at its place
abbrev pub AreSpelled : List (List ℕ) → List Record → Type 0
AreSpelled [] [] = Unit {0}
AreSpelled (frame ∷ rest) (r ∷ records) = Spells frame r × AreSpelled rest records
AreSpelled [] (r ∷ records) = ⊥
AreSpelled (frame ∷ rest) [] = ⊥
