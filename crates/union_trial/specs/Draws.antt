-- What the generator draws: the numbers of a linear congruence, six for each frame.
use Rattle.std.specs.Prelude.{ℕ, zero, suc, ◌+◌, ◌*◌, ◌/◌, ◌%◌, ◌^◌, ◌==◌, List, [], ◌∷◌, if◌then◌else◌}
use Rattle.union_trial.specs.declared.draws.Draws.{Draws}

-- the state after a draw
unfoldable pub next_state : ℕ → ℕ
next_state state = (state * 6364136223846793005 + 1442695040888963407) % 2 ^ 64

-- the number below that one which a draw gives, by the state after it
unfoldable pub number_below : ℕ → ℕ → ℕ
number_below below state = (state / 2 ^ 33) % below

-- the six draws of a frame, in their order, where `count` frames are generated
unfoldable pub draws_of : ℕ → ℕ → Draws
draws_of count state =
    let first = next_state state in
    let second = next_state first in
    let third = next_state second in
    let fourth = next_state third in
    let fifth = next_state fourth in
    let sixth = next_state fifth in
    record {
      op = number_below 10 first;
      control = number_below count second;
      title = number_below (4 * count) third;
      name = number_below (count / 8 + 1) fourth;
      year = 1990 + number_below 3 fifth;
      number = number_below (4 * count) sixth;
    }

-- the state after them
unfoldable pub state_behind : ℕ → ℕ
state_behind state = next_state (next_state (next_state (next_state (next_state (next_state state)))))

-- the draws of those frames that belong to a library, of this many frames that are still to be generated; frame i belongs to
-- the library at place i modulo 3
abbrev pub draws_from : ℕ → ℕ → ℕ → ℕ → ℕ → List Draws
draws_from count place state number zero = []
draws_from count place state number (suc left) =
    (if number % 3 == place
    then draws_of count state ∷ draws_from count place (state_behind state) (number + 1) left
    else draws_from count place (state_behind state) (number + 1) left)

-- the draws of a library's frames, of all that are generated from that seed
abbrev pub library_draws : ℕ → ℕ → ℕ → List Draws
library_draws seed count place = draws_from count place seed 0 count
