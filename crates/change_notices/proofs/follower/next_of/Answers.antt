use Rattle.std.proofs.Common.{◌≡◌, ℕ, subst}
use Rattle.std.specs.Prelude.{Err}
use Rattle.std.specs.declared.result.Result.{Result}
use Rattle.change_notices.specs.declared.refusal.FollowRefusal.{FollowRefusal}
use Rattle.change_notices.specs.declared.refusal.FollowRefusal.TheVariants.{Double}
use Rattle.change_notices.specs.Followers.{IsDouble, IsFirst}
use Rattle.change_notices.proofs.FollowerLaws.{taken-by}
use Rattle.change_notices.proofs.follower.next_of.Goals as goal

same-place : {T : Type 0} (a b : ℕ) → ◌≡◌ {A = Result T FollowRefusal} (Err (Double a)) (Err (Double b)) → a ≡ b
same-place a b is = cc

pub returns-in-Some-clause-double : goal.returns-in-Some-clause-double
returns-in-Some-clause-double c =
    λ at is.
    let held = c.args.held.now in
    let closed = c.args.closed.now in
    let opened = c.args.opened.items in
    let marks = rw c.in-Ok.is at c.in_ok-marks.ensures in
    let only = (rw c.as_slice.ensures.value at c.in_ok-staying-in-Ok.ensures) closed marks.1 in
    let looked = (rw (c.as_slice-in-Ok.ensures.value, c.as_slice-in-Ok-2.ensures.value) at c.in_ok-at-in-Ok.ensures) held closed only in
    let found = rw c.in-Some.is at looked in
    let same = same-place c.in-Some.at at is in
    (marks.0, subst (λ k. IsFirst (IsDouble held closed opened) k) same found)

pub returns-in_ok-joined-in-None-clause-fits : goal.returns-in_ok-joined-in-None-clause-fits
returns-in_ok-joined-in-None-clause-fits c =
    let held = c.args.held.now in
    let closed = c.args.closed.now in
    let marks = rw c.in-Ok.is at c.in_ok-marks.ensures in
    let only = (rw c.as_slice.ensures.value at c.in_ok-staying-in-Ok.ensures) closed marks.1 in
    let looked = (rw (c.as_slice-in-Ok.ensures.value, c.as_slice-in-Ok-2.ensures.value) at c.in_ok-at-in-Ok.ensures) held closed only in
    record { none_missing = marks.0; none_double = rw c.in-None.is at looked }

pub returns-in_ok-joined-in-None-clause-taken : goal.returns-in_ok-joined-in-None-clause-taken
returns-in_ok-joined-in-None-clause-taken c =
    let held = c.args.held.now in
    let closed = c.args.closed.now in
    let marks = rw c.in-Ok.is at c.in_ok-marks.ensures in
    let only = (rw c.as_slice.ensures.value at c.in_ok-staying-in-Ok.ensures) closed marks.1 in
    let looked = (rw (c.as_slice-in-Ok.ensures.value, c.as_slice-in-Ok-2.ensures.value) at c.in_ok-at-in-Ok.ensures) held closed only in
    taken-by held closed c.args.opened.items c.in_ok-staying-in-Ok.staying.items c.in_ok-joined-in-None.field-0.items c.requires only (rw c.in-None.is at looked)
    c.in_ok-joined-in-None.ensures.same c.in_ok-joined-in-None.ensures.ascending
