-- When a count of faults rose, and that a failure has that cause.
use Rattle.std.specs.Prelude.{ℕ, ◌≡◌, ◌+◌, ◌-◌, ◌^◌, ◌≤◌, min, Result, MatchResult}

-- the last value of a count
abbrev pub last_count : ℕ
last_count = 2 ^ 64 - 1

-- the next value of a count, which stays at its last one
abbrev pub next_count : ℕ → ℕ
next_count count = min (count + 1) last_count

-- the count is one more at least, or stands at its last value
abbrev pub Rose : ℕ → ℕ → Type 0
Rose before now = next_count before ≤ now

-- the count doesn't fall, a failure raises it, and no other answer changes it
pub record HasCause {T E : Type 0} (before now : ℕ) (result : Result T E) : Type 0 where
  pub later : before ≤ now
  pub cause : MatchResult result (λ _. now ≡ before) (λ _. Rose before now)
