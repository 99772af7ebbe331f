use Rattle.std.proofs.Common.{◌≡◌, ◌+◌, ◌++◌, ◌∷◌, [], length-take, take, sym, ◌∙◌, ap, arith}
use Rattle.std.proofs.lemmas.List.{take_more, take_all}
use Rattle.swoosh_resolver.proofs.Giving.{giving_none, giving-more, given-all}
use Rattle.swoosh_resolver.proofs.numbers.numbers_for.Goals as goal

pub loop-fresh-init : goal.loop-fresh-init
loop-fresh-init g c = rw c.in_ok-numbers.ensures.items (giving_none c.args.vacated.now c.args.first)

pub number_for-requires : goal.number_for-requires
number_for-requires g c =
    let few = c.loop-fresh.invariant.few in
    let within = length-take c.loop-fresh.fresh-index c.args.opened.now in
    omega arith

pub loop-fresh-preserved : goal.loop-fresh-preserved
loop-fresh-preserved g c =
    let opened = c.args.opened.now in
    let i = c.loop-fresh.fresh-index in
    let x = c.fresh-item.result in
    let longer : take (i + 1) opened ≡ take i opened ++ x ∷ [] = take_more opened i x (omega arith) ∙ ap (λ e. take i opened ++ e ∷ []) (sym c.fresh-item.is) in
    rw (longer, c.in_ok-push.ensures.items)
    (giving-more c.args.vacated.now c.args.first c.requires.distinct c.requires.old opened c.requires.stood c.requires.alone i x (omega arith) c.fresh-item.is c.loop-fresh.place c.loop-fresh.numbers.items c.loop-fresh.invariant
    c.number_for.result c.next_place-place.result c.number_for.ensures.stands c.number_for.ensures.free c.next_place-place.ensures.stands c.next_place-place.ensures.free)

pub returns : goal.returns
returns g c =
    let opened = c.args.opened.now in
    let all : take c.loop-fresh.fresh-index opened ≡ opened = take_all c.loop-fresh.fresh-index opened (omega arith) in
    given-all c.args.vacated.now c.args.first c.requires.distinct c.requires.old opened c.requires.stood c.loop-fresh.place c.loop-fresh.numbers.items (rw all at c.loop-fresh.invariant)
