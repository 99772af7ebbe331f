-- the ledger of this one catalogue
use Rattle.catalogue_tests.proofs.history_tests.one_record_over_its_life.Given as goal

abbrev pub ghosts-load_correct_withdraw : goal.ghosts-load_correct_withdraw
ghosts-load_correct_withdraw a b = record { name = b.blank.name; parts = b.blank.parts }
