-- the ledger of these insertions
use Rattle.merge_tests.proofs.swoosh_resolver_tests.changed.Given as goal

abbrev pub ghosts-changed_by : goal.ghosts-changed_by
ghosts-changed_by a = record { name = a.blank.name; parts = a.blank.parts }
