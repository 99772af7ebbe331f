-- Conditions with their places, one after the other.
use Rattle.std.specs.Prelude.{◌≡◌, ℕ, zero, suc, Bool, true, false, not, ◌==◌, ◌||◌, ◌&&◌, List, [], ◌∷◌, Option, None, Some, Result, MatchResult, if◌then◌else◌}
use Rattle.marc_fields.specs.declared.rules.Rule.{Rule}
use Rattle.marc_fields.specs.declared.rules.Failure.{Failure}
use Rattle.marc_fields.specs.declared.decoding.DecodeRefusal.{DecodeRefusal}
use Rattle.marc_fields.specs.declared.decoding.DecodeRefusal.TheVariants.{Rule as RuleRefusal, Memory}

-- the condition holds, or fails at place 0
abbrev pub unless : Bool → Option ℕ
unless holds = (if holds then None else Some 0)

-- the least place, counted from that one, of a value that does not pass the test
abbrev pub least_where_not : {A : Type 0} → (A → Bool) → ℕ → List A → Option ℕ
least_where_not passes i [] = None
least_where_not passes i (x ∷ xs) = (if passes x then least_where_not passes (suc i) xs else Some i)

-- the rule fails at the place, if there is one
abbrev pub fails : Rule → Option ℕ → Option Failure
fails rule None = None
fails rule (Some place) = Some (record { rule = rule; place = place })

-- the first of two failures, if there is one
abbrev pub or_then : Option Failure → Option Failure → Option Failure
or_then None later = later
or_then (Some first) later = Some first

-- the refusal is that failure, or lack of memory
abbrev pub IsRefusal : DecodeRefusal → Option Failure → Type 0
IsRefusal (RuleRefusal rule place) failure = failure ≡ Some (record { rule = rule; place = place })
IsRefusal Memory failure = Unit {0}

-- the answer is a value where nothing fails, else a refusal that names the failure
abbrev pub Answers : {T : Type 0} → Result T DecodeRefusal → Option Failure → (T → Type 0) → Type 0
Answers result failure P = MatchResult result (λ value. (failure ≡ None) × P value) (λ refusal. IsRefusal refusal failure)

-- the answer is a value where nothing fails, else the failure
abbrev pub Checks : {T : Type 0} → Result T Failure → Option Failure → (T → Type 0) → Type 0
Checks result failure P = MatchResult result (λ value. (failure ≡ None) × P value) (λ found. failure ≡ Some found)

-- one of this many numbers from that one on passes the test
abbrev pub any_from : (ℕ → Bool) → ℕ → ℕ → Bool
any_from passes start zero = false
any_from passes start (suc n) = passes start || any_from passes (suc start) n

-- each of this many numbers from that one on passes the test
abbrev pub all_from : (ℕ → Bool) → ℕ → ℕ → Bool
all_from passes start zero = true
all_from passes start (suc n) = passes start && all_from passes (suc start) n

-- the value ends the list, and stands nowhere before
abbrev pub ends_in_only : ℕ → List ℕ → Bool
ends_in_only end [] = false
ends_in_only end (b ∷ []) = b == end
ends_in_only end (b ∷ c ∷ rest) = not (b == end) && ends_in_only end (c ∷ rest)
