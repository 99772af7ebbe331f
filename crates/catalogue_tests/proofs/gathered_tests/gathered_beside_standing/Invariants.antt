-- the ledger of this one catalogue
use Rattle.catalogue_tests.proofs.gathered_tests.gathered_beside_standing.Given as goal

abbrev pub ghosts-agree : goal.ghosts-agree
ghosts-agree a b = record { name = b.blank.name; parts = b.blank.parts }
