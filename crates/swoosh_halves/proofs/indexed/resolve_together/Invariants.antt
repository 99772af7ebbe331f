-- the ledger of a call is one that was just opened
use Rattle.swoosh_halves.proofs.indexed.resolve_together.Given as goal

abbrev pub ghosts-resolve_by : goal.ghosts-resolve_by
ghosts-resolve_by g a = record { name = a.blank.name; parts = a.blank.parts }
