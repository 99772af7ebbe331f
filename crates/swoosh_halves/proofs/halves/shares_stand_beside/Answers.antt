use Rattle.swoosh_halves.proofs.Joining.{cut_front, cut_back, groups_beside}
use Rattle.swoosh_halves.proofs.halves.shares_stand_beside.Goals as goal

pub returns-clause-front : goal.returns-clause-front
returns-clause-front g c = cut_front

pub returns-clause-back : goal.returns-clause-back
returns-clause-back g c = cut_back

pub returns-clause-beside : goal.returns-clause-beside
returns-clause-beside g c = groups_beside g.met.R.Join.join_laws g.met.R.Resolvable.match_laws g.met.R.Resolvable.key_laws
