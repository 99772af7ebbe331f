-- the ledger of this one test
use Rattle.merge_tests.proofs.cluster_reopen_tests.reopened.Given as goal

abbrev pub ghosts-reopened_by : goal.ghosts-reopened_by
ghosts-reopened_by a = record { name = a.blank.name; parts = a.blank.parts }
