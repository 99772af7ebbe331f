use Rattle.std.proofs.Common.{◌≡◌, length, refl, subst, arith}
use Rattle.std.proofs.lemmas.Option.{slice_get_read}
use Rattle.change_notices.proofs.MarkLaws.{Marks, marks-more, marks-stop, marks-all}
use Rattle.change_notices.proofs.marking.marked.Goals as goal

pub returns-in-None : goal.returns-in-None
returns-in-None c =
    let closed = c.args.closed.now in
    let at = c.loop-at.at in
    let e = c.index-closed-at.result in
    marks-stop c.args.held.now closed c.requires at c.loop-at.marks.items c.loop-at.invariant e
    (slice_get_read closed (length closed) at e refl c.loop-at-test.true c.index-closed-at.is) (rw (c.as_slice.ensures.value, c.in-None.is) at c.in_ok-place.ensures.none)

pub loop-at-preserved : goal.loop-at-preserved
loop-at-preserved c =
    let closed = c.args.closed.now in
    let at = c.loop-at.at in
    let e = c.index-closed-at.result in
    let found = rw (c.as_slice.ensures.value, c.in-Some.is) at c.in_ok-place.ensures.found in
    marks-more c.args.held.now closed c.requires at c.loop-at.marks.items c.loop-at.invariant e
    (slice_get_read closed (length closed) at e refl c.loop-at-test.true c.index-closed-at.is) c.in-Some.place found.0 found.2

pub returns : goal.returns
returns c =
    let all : c.loop-at.at ≡ length c.args.closed.now = omega (arith, c.loop-at-test.false, c.loop-at.auto.at-end) in
    marks-all c.args.held.now c.args.closed.now c.requires c.loop-at.marks.items (subst (λ n. Marks c.args.held.now c.args.closed.now n c.loop-at.marks.items) all c.loop-at.invariant)
