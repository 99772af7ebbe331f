-- the ledger of this one catalogue
use Rattle.notice_tests.proofs.followed_tests.follow_fifty.Given as goal

abbrev pub ghosts-follows : goal.ghosts-follows
ghosts-follows a = record { name = a.blank.name; parts = a.blank.parts }
