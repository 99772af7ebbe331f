-- The frames of a stream that are refused.
use Rattle.std.specs.Prelude.{ℕ, suc, List, [], ◌∷◌, ◌++◌, Option, None, Some}
use Rattle.marc_fields.specs.declared.rules.Failure.{Failure}
use Rattle.library_batches.specs.Streams.{Frame, failure_of}
use Rattle.library_batches.specs.declared.refused.RefusedFrame.{RefusedFrame}

-- a frame that breaks a rule, under its number
abbrev pub refusal_of : ℕ → Option Failure → List RefusedFrame
refusal_of number None = []
refusal_of number (Some failure) = record { frame = number; rule = failure.rule; place = failure.place } ∷ []

-- the refused ones of frames that are numbered from that number on
abbrev pub refused_from : ℕ → List Frame → List RefusedFrame
refused_from number [] = []
refused_from number (frame ∷ rest) = refusal_of number (failure_of frame) ++ refused_from (suc number) rest

-- the refused ones of a stream's frames, which are numbered from 1
abbrev pub refused : List Frame → List RefusedFrame
refused all = refused_from 1 all
