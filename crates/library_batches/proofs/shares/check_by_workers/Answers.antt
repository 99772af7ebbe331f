use Rattle.std.proofs.Common.{◌+◌, ◌*◌, ◌<◌, ◌≤◌, length, get_or, subst, arith}
use Rattle.std.specs.Prelude.{IfOk}
use Rattle.library_batches.specs.Shares.{IsShare}
use Rattle.library_batches.proofs.ShareLaws.{are-shares, shares-reach}
use Rattle.library_batches.proofs.shares.check_by_workers.Goals as goal

pub returns-clause-checked : goal.returns-clause-checked
returns-clause-checked g c =
    let origin = c.args.origin.now in
    let frames = c.args.frames.now in
    let size = c.max-size.result in
    let parts = c.in_ok-parts.parts.items in
    let some : 0 < size = omega (arith, c.max-size.ensures) in
    let few : length frames ≤ length parts * size = shares-reach (length parts) size (length frames) some (omega (arith, c.in_ok-parts.ensures.len, c.in_ok-parts.parts.ok)) in
    c.join_shares.ensures.checked origin.prefer.now origin.library.now size origin.number frames
    (are-shares origin.prefer.now origin.library.now size origin.number frames parts few
    (λ n d within.
    let given = (c.in_ok-parts.ensures.each n d within).1 in (
      omega (arith, given.argument_is.nonempty, given.argument_is.in_bounds),
      subst (λ fs. IfOk (get_or parts n d) (IsShare origin.prefer.now origin.library.now (origin.number + n * size) fs)) given.argument_is.value given.call,
    )))

pub returns-clause-kept : goal.returns-clause-kept
returns-clause-kept g c =
    let origin = c.args.origin.now in
    let frames = c.args.frames.now in
    let size = c.max-size.result in
    let parts = c.in_ok-parts.parts.items in
    let some : 0 < size = omega (arith, c.max-size.ensures) in
    let few : length frames ≤ length parts * size = shares-reach (length parts) size (length frames) some (omega (arith, c.in_ok-parts.ensures.len, c.in_ok-parts.parts.ok)) in
    c.join_shares.ensures.kept origin.prefer.now origin.library.now size origin.number frames
    (are-shares origin.prefer.now origin.library.now size origin.number frames parts few
    (λ n d within.
    let given = (c.in_ok-parts.ensures.each n d within).1 in (
      omega (arith, given.argument_is.nonempty, given.argument_is.in_bounds),
      subst (λ fs. IfOk (get_or parts n d) (IsShare origin.prefer.now origin.library.now (origin.number + n * size) fs)) given.argument_is.value given.call,
    )))
