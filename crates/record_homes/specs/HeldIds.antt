-- Where what a turn touched is held.
use Rattle.std.specs.Prelude.{Option}
use Rattle.record_homes.specs.Maps.{MapOf}
use Rattle.record_homes.specs.declared.place.Place.{Place}
use Rattle.record_homes.specs.declared.touched.Held.{Held}
use Rattle.record_homes.specs.declared.touched.Held.TheVariants.{List, Tree}

-- the ids in the list or in the tree, with their places
abbrev pub held_in : Held → MapOf (Option Place)
held_in (List ids) = ids.entries
held_in (Tree tree) = tree.entries
