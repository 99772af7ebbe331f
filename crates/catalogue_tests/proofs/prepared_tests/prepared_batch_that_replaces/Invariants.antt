-- the ledger of these two catalogues
use Rattle.catalogue_tests.proofs.prepared_tests.prepared_batch_that_replaces.Given as goal

abbrev pub ghosts-come_true : goal.ghosts-come_true
ghosts-come_true a b = record { name = b.blank.name; parts = b.blank.parts }
