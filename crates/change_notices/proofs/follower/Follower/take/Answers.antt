use Rattle.std.proofs.Common.{◌≡◌, List, ap, subst, ◌∙◌}
use Rattle.std.specs.Prelude.{Err}
use Rattle.std.specs.declared.result.Result.{Result}
use Rattle.catalogue_editions.specs.declared.edition.Edition.{Edition}
use Rattle.change_notices.specs.Followers.{IsDouble, IsFirst, IsMissing, IsNowhere}
use Rattle.change_notices.specs.declared.refusal.FollowRefusal.{FollowRefusal}
use Rattle.change_notices.specs.declared.refusal.FollowRefusal.TheVariants.{Missing, Double}
use Rattle.change_notices.proofs.follower.Follower.take.Goals as goal

same-refusal : {T : Type 0} (r s : FollowRefusal) → ◌≡◌ {A = Result T FollowRefusal} (Err r) (Err s) → r ≡ s
same-refusal r s is = cc

pub returns-clause-missing : goal.returns-clause-missing
returns-clause-missing c =
    λ at is.
    let same = same-refusal c.in-Err.refusal (Missing at) is in
    subst (λ (h : List Edition). IsFirst (IsMissing h c.args.delta.closed.items) at) (c.as_slice.ensures.value ∙ c.self.view_is)
    (subst (λ (k : List Edition). IsFirst (IsMissing c.as_slice.result.now k) at) c.as_slice-2.ensures.value (c.in-Err.ensures.missing at (ap Err same)))

pub returns-clause-double : goal.returns-clause-double
returns-clause-double c =
    λ at is.
    let same = same-refusal c.in-Err.refusal (Double at) is in
    let opened = c.args.delta.opened.items in
    subst (λ (h : List Edition). IsNowhere (IsMissing h c.args.delta.closed.items) × IsFirst (IsDouble h c.args.delta.closed.items opened) at) (c.as_slice.ensures.value ∙ c.self.view_is)
    (subst (λ (k : List Edition). IsNowhere (IsMissing c.as_slice.result.now k) × IsFirst (IsDouble c.as_slice.result.now k opened) at) c.as_slice-2.ensures.value (c.in-Err.ensures.double at (ap Err same)))
