-- the ledger of these insertions
use Rattle.merge_tests.proofs.swoosh_resolver_tests.grown.Given as goal

abbrev pub ghosts-grown_by : goal.ghosts-grown_by
ghosts-grown_by a = record { name = a.blank.name; parts = a.blank.parts }
