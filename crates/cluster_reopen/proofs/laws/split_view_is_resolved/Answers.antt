use Rattle.merge_laws.proofs.Withdrawing.{IsResolution-withdrawn, part-from_match}
use Rattle.cluster_reopen.proofs.Splitting.{withdrawn-from_places}
use Rattle.cluster_reopen.proofs.laws.split_view_is_resolved.Goals as goal

pub returns-clause-resolved : goal.returns-clause-resolved
returns-clause-resolved g c list view at place withdrawn block kept parts resolved at_below is_withdrawn place_below is_block dominated keeps resolved_parts =
    IsResolution-withdrawn g.met.R.Join.join_laws g.met.R.Resolvable.match_laws
    (withdrawn-from_places list view at place withdrawn block kept parts resolved at_below is_withdrawn place_below is_block dominated keeps resolved_parts)

pub returns-clause-strangers : goal.returns-clause-strangers
returns-clause-strangers g c list view at place withdrawn block kept parts resolved at_below is_withdrawn place_below is_block dominated keeps resolved_parts part other in_parts in_others =
    let laws = g.met.R.Resolvable.match_laws in
    let w = withdrawn-from_places list view at place withdrawn block kept parts resolved at_below is_withdrawn place_below is_block dominated keeps resolved_parts in
    let never = part-from_match g.met.R.Join.join_laws laws w part other in_parts in_others in
    (never, λ m. never (laws.symmetric other part m))
