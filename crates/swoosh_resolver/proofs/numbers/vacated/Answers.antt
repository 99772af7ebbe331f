use Rattle.std.proofs.Common.{◌≡◌, ℕ, ◌+◌, ◌++◌, ◌∷◌, [], true, false, take, get_or, refl, ap, not, arith}
use Rattle.std.proofs.lemmas.List.{take_more, take_all, get_or_default}
use Rattle.swoosh_resolver.specs.Changes.{AreVacated}
use Rattle.swoosh_resolver.proofs.Places.{not-before}
use Rattle.swoosh_resolver.proofs.Vacating.{vacated_none, vacated_more, vacated_skipped}
use Rattle.swoosh_resolver.proofs.numbers.vacated.Goals as goal

pub loop-number-init : goal.loop-number-init
loop-number-init g c = rw c.new-vacated.ensures.items (vacated_none c.args.opened.now)

pub is_among-stays-requires : goal.is_among-stays-requires
is_among-stays-requires g c = rw c.as_slice.ensures.value c.in_ok-stood.ensures.ascending

pub loop-number-preserved : goal.loop-number-preserved
loop-number-preserved g c =
    let closed = c.args.closed.now in
    let opened = c.args.opened.now in
    let i = c.loop-number.number-index in
    let n = get_or closed i 0 in
    let longer : take (i + 1) closed ≡ take i closed ++ n ∷ [] = take_more closed i 0 (omega arith) in
    let at : n ≡ get_or closed i n = get_or_default closed i 0 n (omega arith) in
    let stood : (m : ℕ) → _ = λ m. c.in_ok-stood.ensures.members m in
    rw longer (elim c.is_among-stays.result as (λ b. c.is_among-stays.result ≡ b → AreVacated (take i closed ++ n ∷ []) opened c.push_if.new.numbers.items) [
      | true ↦ λ e. rw (c.in_ok-push_if.ensures.no (ap not e)) (vacated_skipped opened (take i closed) c.loop-number.vacated.items n c.loop-number.invariant
          ((c.in_ok-stood_on.ensures n).0 ((stood n).0 (rw c.as_slice.ensures.value at (c.is_among-stays.ensures.yes e)))))
      | false ↦ λ e. rw (c.in_ok-push_if.ensures.yes (ap not e)) (vacated_more opened (take i closed) c.loop-number.vacated.items n c.loop-number.invariant
          (λ there. c.is_among-stays.ensures.no e (rw c.as_slice.ensures.value ((stood n).1 ((c.in_ok-stood_on.ensures n).1 there))))
          (not-before closed c.requires i n (omega arith) at))
    ] refl)

pub returns : goal.returns
returns g c =
    let all : take c.loop-number.number-index c.args.closed.now ≡ c.args.closed.now = take_all c.loop-number.number-index c.args.closed.now (omega arith) in
    rw all at c.loop-number.invariant
