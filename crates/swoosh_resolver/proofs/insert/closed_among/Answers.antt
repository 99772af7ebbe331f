use Rattle.std.proofs.Common.{◌≡◌, ◌+◌, ◌++◌, ◌∷◌, [], true, false, take, get_or, refl, sym, ◌∙◌, arith}
use Rattle.std.proofs.lemmas.List.{take_more, take_all}
use Rattle.swoosh_resolver.proofs.Places.{closed-from_found, open-from_missed}
use Rattle.swoosh_resolver.proofs.Vacating.{AreShut, shut_none, shut_more, shut_skipped}
use Rattle.swoosh_resolver.proofs.insert.closed_among.Goals as goal

pub loop-number-init : goal.loop-number-init
loop-number-init c = rw c.new-shut.ensures.items (shut_none c.args.closed.now)

pub loop-number-preserved : goal.loop-number-preserved
loop-number-preserved c =
    let numbers = c.args.numbers.now in
    let closed = c.args.closed.now in
    let i = c.loop-number.number-index in
    let n = get_or numbers i 0 in
    let longer : take (i + 1) numbers ≡ take i numbers ++ n ∷ [] = take_more numbers i 0 (omega arith) in
    rw longer (elim c.contains.result as (λ b. c.contains.result ≡ b → AreShut closed (take i numbers ++ n ∷ []) c.push_if.new.numbers.items) [
      | true ↦ λ e. rw (c.in_ok-push_if.ensures.yes e) (shut_more closed (take i numbers) c.loop-number.shut.items n c.loop-number.invariant (closed-from_found closed n (sym c.contains.ensures.value ∙ e)))
      | false ↦ λ e. rw (c.in_ok-push_if.ensures.no e) (shut_skipped closed (take i numbers) c.loop-number.shut.items n c.loop-number.invariant (open-from_missed closed n (sym c.contains.ensures.value ∙ e)))
    ] refl)

pub returns : goal.returns
returns c =
    let all : take c.loop-number.number-index c.args.numbers.now ≡ c.args.numbers.now = take_all c.loop-number.number-index c.args.numbers.now (omega arith) in
    (rw all at c.loop-number.invariant).members
