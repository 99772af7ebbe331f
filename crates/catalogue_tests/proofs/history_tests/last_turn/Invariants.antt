-- the ledger of this one catalogue
use Rattle.catalogue_tests.proofs.history_tests.last_turn.Given as goal

abbrev pub ghosts-bridge_goes : goal.ghosts-bridge_goes
ghosts-bridge_goes a b = record { name = b.blank.name; parts = b.blank.parts }
