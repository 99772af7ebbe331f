-- Which calls of an object in memory fail, by their numbers. The first call has the number 1.
use Rattle.std.specs.Prelude.{ℕ, List, Bool, ◌==◌}
use Rattle.std.specs.List.{list_any}
use Rattle.union_io.specs.Causes.{next_count}

-- the numbers of the calls that are to fail, and how many calls came so far
pub record Script : Type 0 where
  pub fails : List ℕ
  pub calls : ℕ

-- whether the next call is to fail
abbrev pub fails_next : Script → Bool
fails_next script = list_any (λ number. number == next_count script.calls) script.fails

-- the script when one more call came
abbrev pub after_call : Script → Script
after_call script = record script { calls = next_count script.calls }

-- the script before the first call
abbrev pub new_script : List ℕ → Script
new_script fails = record { fails = fails; calls = 0 }
