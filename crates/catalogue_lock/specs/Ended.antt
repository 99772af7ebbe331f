-- What a seat stands for, and what a pass leaves when it is ended.
use Rattle.std.specs.Prelude.{ℕ, List, Bool, true, false}

-- the one seat of the root, the seat of a live pass, or a seat that was joined into the root's
pub data Role : Type 0 where
  AsRoot : Role
  AsPass : Role
  Spent : Role

-- the seat is that of a pass
abbrev pub is_pass : Role → Bool
is_pass AsRoot = false
is_pass AsPass = true
is_pass Spent = false

-- the number of an ended pass, its own list of changes, and the beginning of the history that it had seen
pub record Ended (C : Type 0) : Type 0 where
  pub number : ℕ
  pub own : List C
  pub seen : List (ℕ × C)
