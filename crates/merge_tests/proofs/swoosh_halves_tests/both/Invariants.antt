-- the ledger of these resolutions
use Rattle.merge_tests.proofs.swoosh_halves_tests.both.Given as goal

abbrev pub ghosts-both_by : goal.ghosts-both_by
ghosts-both_by a = record { name = a.blank.name; parts = a.blank.parts }
