-- the ledger of this one catalogue
use Rattle.catalogue_tests.proofs.common_title_tests.editions_of_many_titles.Given as goal

abbrev pub ghosts-agree : goal.ghosts-agree
ghosts-agree a b = record { name = b.blank.name; parts = b.blank.parts }
