-- The draws that are still to come, frame by frame.
use Rattle.std.proofs.Common.{◌≡◌, ℕ, suc, ◌+◌, ◌-◌, ◌%◌, ◌<◌, ◌≤◌, true, false, List, [], ◌∷◌, ap, ◌∙◌, arith}
use Rattle.std.specs.Prelude.{◌==◌, if◌then◌else◌}
use Rattle.union_trial.specs.Draws.{draws_of, state_behind, draws_from}
use Rattle.union_trial.specs.declared.draws.Draws.{Draws}

-- those after the next frame
abbrev pub behind : ℕ → ℕ → ℕ → ℕ → List Draws
behind count place state number = draws_from count place (state_behind state) (number + 1) (count - (number + 1))

next_frame : (count place state number : ℕ) → number < count
    → draws_from count place state number (count - number)
    ≡ (if number % 3 == place then draws_of count state ∷ behind count place state number else behind count place state number)
next_frame count place state number more =
    let left : count - number ≡ suc (count - (number + 1)) = omega arith in
    ap (draws_from count place state number) left

-- the next frame is the library's, or is passed over
pub draws_mine : (count place state number : ℕ) → number < count → (number % 3 == place) ≡ true
    → draws_from count place state number (count - number) ≡ draws_of count state ∷ behind count place state number
draws_mine count place state number more mine =
    next_frame count place state number more
    ∙ ap (λ b. if b then draws_of count state ∷ behind count place state number else behind count place state number) mine

pub draws_passed : (count place state number : ℕ) → number < count → (number % 3 == place) ≡ false
    → draws_from count place state number (count - number) ≡ behind count place state number
draws_passed count place state number more other =
    next_frame count place state number more
    ∙ ap (λ b. if b then draws_of count state ∷ behind count place state number else behind count place state number) other

-- after the last frame there are none
pub draws_none : (count place state number : ℕ) → count ≤ number → draws_from count place state number (count - number) ≡ []
draws_none count place state number past =
    let none : count - number ≡ 0 = omega arith in
    ap (draws_from count place state number) none
