-- What an opening does to the names that were opened and to the counts of faults.
use Rattle.std.specs.Prelude.{ℕ, ◌≡◌, List, Ok, Err}
use Rattle.std.specs.declared.result.Result.{Result}
use Rattle.union_io.specs.declared.shelf.OpenFail.{OpenFail}
use Rattle.union_io.specs.declared.shelf.OpenFail.TheVariants.{Failed, Memory}
use Rattle.union_io.specs.Causes.{Rose}
use Rattle.union_io.specs.Counts.{SameCounts}
use Rattle.union_io.specs.Names.{AddsName}

-- a want of memory leaves the names, and any other answer adds the name
abbrev pub ListsOpen : {S : Type 0} → Result S OpenFail → List (List ℕ) → List (List ℕ) → List ℕ → Type 0
ListsOpen (Ok source) old new name = AddsName old new name
ListsOpen (Err Failed) old new name = AddsName old new name
ListsOpen (Err Memory) old new name = new ≡ old

-- a failure raises the count of the name, and any other answer leaves each count
abbrev pub CountsOpen : {S : Type 0} → Result S OpenFail → (List ℕ → ℕ) → (List ℕ → ℕ) → List ℕ → Type 0
CountsOpen (Ok source) old new name = SameCounts old new
CountsOpen (Err Failed) old new name = Rose (old name) (new name)
CountsOpen (Err Memory) old new name = SameCounts old new
