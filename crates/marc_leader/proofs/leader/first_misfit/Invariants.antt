use Rattle.std.proofs.Common.{◌≡◌, drop}
use Rattle.marc_leader.specs.Leader.{misfit, misfit_from}
use Rattle.marc_leader.proofs.leader.first_misfit.Given as goal

-- what was passed had no misfit
abbrev pub invariant-loop-at : goal.invariant-loop-at
invariant-loop-at l = misfit l.text ≡ misfit_from l.at (drop l.at l.text)
