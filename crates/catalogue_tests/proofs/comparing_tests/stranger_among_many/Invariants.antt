-- the ledger of this one catalogue
use Rattle.catalogue_tests.proofs.comparing_tests.stranger_among_many.Given as goal

abbrev pub ghosts-stranger_comes_and_goes : goal.ghosts-stranger_comes_and_goes
ghosts-stranger_comes_and_goes a b = record { name = b.blank.name; parts = b.blank.parts }
