-- the ledger of this one catalogue
use Rattle.catalogue_tests.proofs.preference_tests.catalogue_of.Given as goal

abbrev pub ghosts-catalogue_by : goal.ghosts-catalogue_by
ghosts-catalogue_by a = record { name = a.blank.name; parts = a.blank.parts }
