-- How the numbers under one key lie in their place.
use Rattle.std.specs.Prelude.{ℕ, ◌+◌, ◌≤◌, List, take, length, vec_capacity}
use Rattle.feature_index.specs.declared.row.Numbers.{Numbers}
use Rattle.feature_index.specs.declared.row.Numbers.TheVariants.{Few, Many}

-- how many numbers are held in place
abbrev pub most_in_place : ℕ
most_in_place = 3

-- the numbers: those at the first places, or those of the list
abbrev pub numbers_in : Numbers → List ℕ
numbers_in (Few count spare places) = take count places
numbers_in (Many spare list) = list.items

-- how many more are sure to find room
abbrev pub spare_in : Numbers → ℕ
spare_in (Few count spare places) = spare
spare_in (Many spare list) = spare

-- they do find room: in place, or in the list's memory
abbrev pub HasRoomInRow : Numbers → Type 0
HasRoomInRow (Few count spare places) = count + spare ≤ most_in_place
HasRoomInRow (Many spare list) = length list.items + spare ≤ vec_capacity list
