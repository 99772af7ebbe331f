use Rattle.std.proofs.Common.{◌≡◌, ◌<◌, ◌^◌, sym, ◌∙◌, arith}
use Rattle.std.specs.Int.{bit_at}
use Rattle.std.proofs.lemmas.Nat.Bits.{shr_and_one}
use Rattle.merge_tests.proofs.Digits.{places_passed, places_pushed, places_all}
use Rattle.merge_tests.proofs.small_sets.digits_of.Goals as goal
use Rattle.merge_tests.proofs.small_sets.digits_of.Goals.{then-mask-k-eq1+in_ok-push, else-mask-k-eq1}

pub loop-k-preserved : goal.loop-k-preserved
loop-k-preserved c =
    let mask = c.args.mask in
    let digit : bit_at mask c.loop-k.k ≡ _ = sym (shr_and_one mask c.loop-k.k) in
    elim c.if-mask-k-eq1.branch [
      | then-mask-k-eq1+in_ok-push w ↦ rw (w.keys-is, w.in_ok-push.ensures.items) (places_pushed mask c.loop-k.k c.loop-k.keys.items c.loop-k.invariant (digit ∙ w.if-mask-k-eq1.true))
      | else-mask-k-eq1 w ↦ rw w.keys-is (places_passed mask c.loop-k.k c.loop-k.keys.items c.loop-k.invariant (λ e. w.if-mask-k-eq1.false (sym digit ∙ e)))
    ]

pub returns-clause-places : goal.returns-clause-places
returns-clause-places c k =
    let last : c.loop-k.k ≡ 64 = omega arith in
    let fits : c.args.mask < 2 ^ 64 = omega arith in
    let small : c.args.mask < 2 ^ c.loop-k.k = rw last fits in
    places_all c.args.mask c.loop-k.k c.loop-k.keys.items c.loop-k.invariant small k
