-- the ledger of this one catalogue
use Rattle.catalogue_tests.proofs.comparing_tests.chain_that_goes.Given as goal

abbrev pub ghosts-chain_goes : goal.ghosts-chain_goes
ghosts-chain_goes a b = record { name = b.blank.name; parts = b.blank.parts }
