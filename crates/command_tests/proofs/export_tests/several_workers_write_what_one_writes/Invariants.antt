-- the ledger of this one catalogue
use Rattle.command_tests.proofs.export_tests.several_workers_write_what_one_writes.Given as goal

abbrev pub ghosts-filled : goal.ghosts-filled
ghosts-filled a b = record { name = b.blank.name; parts = b.blank.parts }
