-- A line that goes on.
use Rattle.std.proofs.Common.{◌≡◌, ◌<◌, ◌≤◌, ◌-◌, ℕ, Bool, true, false, List, ◌++◌, length, ap, arith, length-append}
use Rattle.union_json.specs.Kept.{IsHeld}
use Rattle.union_json.specs.Lines.{longest_line}

-- a line that is too long stays so
pub over_longer : (over : Bool) (bytes begun part : List ℕ) → over ≡ true → IsHeld over bytes begun → IsHeld over bytes (begun ++ part)
over_longer true bytes begun part is held = omega (arith, length-append begun part, held)
over_longer false bytes begun part is held = cc

-- a line becomes too long
pub held_over : (over : Bool) (bytes begun part : List ℕ) → over ≡ false → IsHeld over bytes begun → 1048576 - length bytes < length part
    → longest_line < length (begun ++ part)
held_over true bytes begun part is held more = cc
held_over false bytes begun part is held more =
    let size : length begun ≡ length bytes = ap length held.0 in
    omega (arith, length-append begun part, size, held.1, more)

-- a line within the limit stays so
pub held_longer : (over : Bool) (bytes begun part : List ℕ) → over ≡ false → IsHeld over bytes begun → length part ≤ 1048576 - length bytes
    → IsHeld over (bytes ++ part) (begun ++ part)
held_longer true bytes begun part is held less = cc
held_longer false bytes begun part is held less =
    let size : length begun ≡ length bytes = ap length held.0 in
    (ap (λ t. t ++ part) held.0, omega (arith, length-append begun part, size, held.1, less))
