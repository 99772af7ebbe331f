use Rattle.std.proofs.Common.{◌≡◌, ◌+◌, ◌++◌, ◌∷◌, [], take, sym, ◌∙◌, ap, arith}
use Rattle.std.proofs.lemmas.List.{take_more, take_all}
use Rattle.swoosh_resolver.proofs.Vacating.{stood_none, stood_more}
use Rattle.swoosh_resolver.proofs.numbers.stood_on.Goals as goal

pub loop-fresh-init : goal.loop-fresh-init
loop-fresh-init g c = rw c.in_ok-numbers.ensures.items stood_none

pub loop-fresh-preserved : goal.loop-fresh-preserved
loop-fresh-preserved g c =
    let opened = c.args.opened.now in
    let i = c.loop-fresh.fresh-index in
    let x = c.fresh-item.result in
    let longer : take (i + 1) opened ≡ take i opened ++ x ∷ [] = take_more opened i x (omega arith) ∙ ap (λ e. take i opened ++ e ∷ []) (sym c.fresh-item.is) in
    rw longer (stood_more (take i opened) c.loop-fresh.numbers.items c.push_base.new.numbers.items x c.loop-fresh.invariant c.in_ok-push_base.ensures.stands c.in_ok-push_base.ensures.free)

pub returns : goal.returns
returns g c =
    let all : take c.loop-fresh.fresh-index c.args.opened.now ≡ c.args.opened.now = take_all c.loop-fresh.fresh-index c.args.opened.now (omega arith) in
    (rw all at c.loop-fresh.invariant).members
