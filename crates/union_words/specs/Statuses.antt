-- The statuses: their exit numbers, and what they say of how a run ended.
use Rattle.std.specs.Prelude.{ℕ, Bool, true, false, if◌then◌else◌}
use Rattle.union_words.specs.declared.status.Status.{Status}
use Rattle.union_words.specs.declared.status.Status.TheVariants.{Done, DoneWithRefusals, Usage, OpenFault, ReadFault, WriteFault, TooLong, Memory}

-- the number with which the program ends
abbrev pub exit_number : Status → ℕ
exit_number Done = 0
exit_number DoneWithRefusals = 1
exit_number Usage = 2
exit_number (OpenFault input) = 3
exit_number (ReadFault input) = 4
exit_number WriteFault = 5
exit_number (TooLong input) = 6
exit_number Memory = 7

-- the run came to its end
abbrev pub is_done : Status → Bool
is_done Done = true
is_done DoneWithRefusals = true
is_done Usage = false
is_done (OpenFault input) = false
is_done (ReadFault input) = false
is_done WriteFault = false
is_done (TooLong input) = false
is_done Memory = false

-- the run ended for another cause than a failed write
abbrev pub is_early : Status → Bool
is_early Done = false
is_early DoneWithRefusals = false
is_early Usage = true
is_early (OpenFault input) = true
is_early (ReadFault input) = true
is_early WriteFault = false
is_early (TooLong input) = true
is_early Memory = true

-- an input could not be opened, or a read of it failed
abbrev pub is_input_fault : Status → Bool
is_input_fault Done = false
is_input_fault DoneWithRefusals = false
is_input_fault Usage = false
is_input_fault (OpenFault input) = true
is_input_fault (ReadFault input) = true
is_input_fault WriteFault = false
is_input_fault (TooLong input) = false
is_input_fault Memory = false

-- how a run ends that came to its end, by whether something was refused
abbrev pub end_by : Bool → Status
end_by refused = (if refused then DoneWithRefusals else Done)
