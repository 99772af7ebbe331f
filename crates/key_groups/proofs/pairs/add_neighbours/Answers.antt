use Rattle.std.proofs.Common.{ap, ◌∙◌, arith}
use Rattle.key_groups.proofs.Pairing.{added_none, added_pair, added_no_pair, places_joined}
use Rattle.key_groups.proofs.pairs.add_neighbours.Goals.{then-one-other+in_ok-push, else-one-other}
use Rattle.key_groups.proofs.pairs.add_neighbours.Goals as goal

pub loop-next-init : goal.loop-next-init
loop-next-init c = added_none c.args.sorted.now c.args.pairs.now.items

pub loop-next-preserved : goal.loop-next-preserved
loop-next-preserved c =
    let notes = c.args.sorted.now in
    let start = c.args.pairs.now.items in
    let so = c.loop-next.invariant in
    let n = c.loop-next.next in
    elim c.if-one-other.branch [
      | then-one-other+in_ok-push w ↦
          added_pair notes start c.loop-next.pairs.items c.if-one-other.pairs.items n c.loop-next.auto.next c.loop-next-test.true w.if-one-other.true
          (ap (λ pairs. pairs.items) w.pairs-is ∙ w.in_ok-push.ensures.items) so
      | else-one-other w ↦
          rw w.pairs-is (added_no_pair notes start c.loop-next.pairs.items n c.loop-next.auto.next c.loop-next-test.true w.if-one-other.false so)
    ]

pub returns-clause-joined : goal.returns-clause-joined
returns-clause-joined c = λ label joins.
    let so = c.loop-next.invariant.joined label joins in
    (so.0, places_joined c.args.sorted.now label c.requires (λ i d il within. so.1 i d (omega (arith, within, c.loop-next-test.false)) within))
