-- the ledger of each plain resolution
use Rattle.merge_tests.proofs.swoosh_halves_tests.drawn_lists.Given as goal

abbrev pub ghosts-plainly_resolved : goal.ghosts-plainly_resolved
ghosts-plainly_resolved g a = record { name = a.blank.name; parts = a.blank.parts }
