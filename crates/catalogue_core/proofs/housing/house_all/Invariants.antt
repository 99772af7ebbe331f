use Rattle.catalogue_core.proofs.StayLaws.{HousesAll}
use Rattle.catalogue_core.proofs.housing.house_all.Given as goal

abbrev pub invariant-loop-place : goal.invariant-loop-place
invariant-loop-place l = HousesAll l.blocks.blocks l.initial.homes.entries l.opened l.numbers l.homes.entries l.place
