-- What contracts see of passes, roots and desks.
use Rattle.std.specs.Prelude.{◌≡◌}
use Rattle.catalogue_lock.specs.declared.machine.Machine.{Ghosts}
use Rattle.catalogue_lock.specs.declared.view.View.{View}
use Rattle.catalogue_lock.specs.declared.pass.Pass.{Pass}
use Rattle.catalogue_lock.specs.declared.root.Root.{Root}
use Rattle.catalogue_lock.specs.declared.desk.Desk.{Desk}

module _ {M S C Q O A : Type 0} {g : Ghosts M S C Q O A} where
  -- what a pass knows
  abbrev pub view : Pass M S C Q O A g → View S C
  view pass = pass.place.me.0

  -- what a root knows
  abbrev pub root_of : Root M S C Q O A g → View S C
  root_of root = root.place.me.0

  -- the pass was made at the desk
  abbrev pub IsPassOf : Pass M S C Q O A g → Desk M S C Q O A → Type 0
  IsPassOf pass desk = pass.place.table_id ≡ desk.board.shared.table_id

  -- the root was made with the desk
  abbrev pub IsRootOf : Root M S C Q O A g → Desk M S C Q O A → Type 0
  IsRootOf root desk = root.place.table_id ≡ desk.board.shared.table_id

  -- the same pass: its number and its setting stay
  abbrev pub IsSamePass : Pass M S C Q O A g → Pass M S C Q O A g → Type 0
  IsSamePass old new = ((view new).number ≡ (view old).number) × ((view new).setting ≡ (view old).setting)
