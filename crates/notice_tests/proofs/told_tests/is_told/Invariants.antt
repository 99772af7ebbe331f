-- the ledger of this one catalogue
use Rattle.notice_tests.proofs.told_tests.is_told.Given as goal

abbrev pub ghosts-tells : goal.ghosts-tells
ghosts-tells a = record { name = a.blank.name; parts = a.blank.parts }
