use Rattle.std.proofs.Common.{◌≤◌, sym, subst}
use Rattle.catalogue_editions.specs.Matching.{match, share}
use Rattle.merge_laws.specs.Reach.{reach}
use Rattle.catalogue_core.proofs.reach_laws.insertion_is_within_shared_keys.Goals as goal

pub returns : goal.returns
returns c list edition number reached =
    subst (λ n. n ≤ reach match share reached.before reached.by) (sym reached.is) (c.reach_is_within_shared_keys.ensures reached.before reached.by)
