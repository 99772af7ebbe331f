use Rattle.std.proofs.Common.{◌++◌}
use Rattle.merge_laws.specs.Resolution.{member}
use Rattle.merge_laws.proofs.Resolutions.{IsResolution-through, IsDominated-refl}
use Rattle.key_groups.specs.Groups.{together}
use Rattle.swoosh_halves.proofs.Joining.{cut_groups, resolved_all}
use Rattle.swoosh_halves.proofs.halves.strangers_stand_beside.Goals as goal

pub returns-clause-groups : goal.returns-clause-groups
returns-clause-groups g c = cut_groups

pub returns-clause-beside : goal.returns-clause-beside
returns-clause-beside g c = λ list strangers all groups cut members done.
    let laws = g.met.R.Resolvable.match_laws in
    let join = g.met.R.Join.join_laws in
    IsResolution-through join laws list (strangers ++ together groups) (strangers ++ all)
    (λ y d. member ((members y).1 d)) (λ x d. (x, (members x).0 d, IsDominated-refl join laws x))
    (resolved_all join laws g.met.R.Resolvable.key_laws strangers groups all cut done)
