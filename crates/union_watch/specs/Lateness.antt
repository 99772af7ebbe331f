-- What is asked beside a load and what after it, and over how many turns each is answered.
use Rattle.std.specs.Prelude.{◌≡◌, ℕ, ◌-◌, ◌≤◌, ◌==◌, if◌then◌else◌, ⊤, List, [], ◌∷◌, length, take, drop}
use Rattle.std.specs.List.{AllByRecursion}

-- with one worker all are late; with more the last one is
abbrev pub late : {X : Type 0} → ℕ → List X → List X
late workers all = (if workers == 1 then all else drop (length all - 1) all)

-- the others
abbrev pub beside : {X : Type 0} → ℕ → List X → List X
beside workers all = (if workers == 1 then [] else take (length all - 1) all)

-- the numbers never fall: each is at least that and those before it, and at most the other
abbrev pub NeverFall : ℕ → ℕ → List ℕ → Type 0
NeverFall least most [] = ⊤
NeverFall least most (number ∷ numbers) = (least ≤ number) × (number ≤ most) × NeverFall number most numbers

-- numbers of turns over which questions are answered beside a load of `turns` turns, and after it
pub record AreTimely (workers turns : ℕ) (numbers : List ℕ) : Type 0 where
  pub never_fall : NeverFall 0 turns numbers
  -- the late ones are answered over all turns
  pub late : AllByRecursion (λ number. number ≡ turns) (late workers numbers)
