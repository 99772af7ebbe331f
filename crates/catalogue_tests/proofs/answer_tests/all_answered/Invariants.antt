-- the ledger of this one catalogue
use Rattle.catalogue_tests.proofs.answer_tests.all_answered.Given as goal

abbrev pub ghosts-catalogue_of : goal.ghosts-catalogue_of
ghosts-catalogue_of a = record { name = a.blank.name; parts = a.blank.parts }
