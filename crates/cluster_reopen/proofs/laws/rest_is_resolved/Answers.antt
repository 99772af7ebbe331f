use Rattle.merge_laws.proofs.Resolutions.{apart-from_resolution}
use Rattle.merge_laws.proofs.Withdrawing.{IsResolution-withdrawn, part-from_match}
use Rattle.cluster_reopen.proofs.laws.rest_is_resolved.Goals as goal

pub returns-clause-resolved : goal.returns-clause-resolved
returns-clause-resolved g c list resolution withdrawn rest block others kept parts w =
    IsResolution-withdrawn g.met.R.Join.join_laws g.met.R.Resolvable.match_laws w

pub returns-clause-apart : goal.returns-clause-apart
returns-clause-apart g c list resolution withdrawn rest block others kept parts w =
    let join = g.met.R.Join.join_laws in
    let laws = g.met.R.Resolvable.match_laws in
    apart-from_resolution join laws rest _ (IsResolution-withdrawn join laws w)

pub returns-clause-strangers : goal.returns-clause-strangers
returns-clause-strangers g c list resolution withdrawn rest block others kept parts w part other in_parts in_others =
    let laws = g.met.R.Resolvable.match_laws in
    let never = part-from_match g.met.R.Join.join_laws laws w part other in_parts in_others in
    (never, λ m. never (laws.symmetric other part m))
