-- the ledger of these insertions
use Rattle.merge_tests.proofs.swoosh_resolver_tests.together.Given as goal

abbrev pub ghosts-inserted_together : goal.ghosts-inserted_together
ghosts-inserted_together a = record { name = a.blank.name; parts = a.blank.parts }
