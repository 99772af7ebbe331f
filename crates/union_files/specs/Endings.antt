-- How a run ends at its input: that it read it to its end, or that it could not.
use Rattle.std.specs.Prelude.{◌≡◌, ℕ, ◌⊎◌, ◌<◌, List, [], ◌∷◌, length, Some, IfSome}
use Rattle.library_batches.specs.Reading.{most_bytes}
use Rattle.library_batches.specs.declared.refused.RefusedFrame.{RefusedFrame}
use Rattle.union_words.specs.Flows.{Inflow, HasFailed}
use Rattle.union_words.specs.declared.input.Input.{Input}
use Rattle.union_words.specs.declared.status.Status.{Status}
use Rattle.union_words.specs.declared.status.Status.TheVariants.{Done, DoneWithRefusals, OpenFault, ReadFault, TooLong, Memory}

-- it has more bytes than are read, where they are told
abbrev pub IsOverfull : Inflow → Type 0
IsOverfull input = IfSome input.told (λ bytes. most_bytes < length bytes)

-- how a run ends that came to its end
abbrev pub end_with : List RefusedFrame → Status
end_with [] = Done
end_with (frame ∷ rest) = DoneWithRefusals

-- the statuses that come of an input which cannot be read to its end
pub record EndsAtInput (input : Input) (flow : Inflow) (status : Status) : Type 0 where
  pub open_fault : (i : Input) → status ≡ OpenFault i → (i ≡ input) × HasFailed flow
  pub read_fault : (i : Input) → status ≡ ReadFault i → (i ≡ input) × HasFailed flow
  pub too_long : (i : Input) → status ≡ TooLong i → (i ≡ input) × IsOverfull flow
  pub too_long_where : (bytes : List ℕ) → flow.told ≡ Some bytes → most_bytes < length bytes → ¬ HasFailed flow
      → (status ≡ TooLong input) ⊎ (status ≡ Memory)
