use Rattle.merge_laws.proofs.Inserting.{reach-wider}
use Rattle.merge_laws.proofs.laws.reach_is_within_shared_keys.Goals as goal

pub returns : goal.returns
returns g c list x =
    reach-wider g.R.Resolvable.meets g.R.Resolvable.is_found g.R.Resolvable.shares
    (λ w y found. let (k, sought, posted) = (g.met.R.Resolvable.finding_laws.found w y).0 found in g.met.R.Resolvable.seeking_laws.near y w k sought posted)
    list x
