-- What the fields of a text in pieces, and of a line that is not ended, mean.
use Rattle.std.specs.Prelude.{◌≡◌, ℕ, ◌<◌, ◌≤◌, Bool, true, false, List, ◌++◌, length, Vec}
use Rattle.std.specs.Global.{Global}
use Rattle.std.specs.List.{flat_map}
use Rattle.union_json.specs.Lines.{longest_line}
use Rattle.union_json.specs.declared.begun_line.BegunLine.{BegunLine}
use Rattle.union_json.specs.declared.gathered.Gathered.TheInside.{Inside}

-- the pieces, one after the other
abbrev pub joined : List (Vec ℕ Global) → List ℕ
joined pieces = flat_map (λ piece. piece.items) pieces

-- a text that is gathered: the pieces that are full, and the last one
abbrev pub text_of : Inside → List ℕ
text_of gathered = joined gathered.full.items ++ gathered.last.items

-- of a line with more than `longest_line` bytes nothing is kept, and of any other all of it
abbrev pub IsHeld : Bool → List ℕ → List ℕ → Type 0
IsHeld true bytes begun = longest_line < length begun
IsHeld false bytes begun = (begun ≡ bytes) × (length begun ≤ longest_line)

-- what the line that is not ended holds
abbrev pub Holds : BegunLine → List ℕ → Type 0
Holds line begun = IsHeld line.is_over line.bytes.items begun
