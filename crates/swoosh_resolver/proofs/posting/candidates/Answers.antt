use Rattle.std.proofs.Common.{◌≡◌, ◌+◌, [], ◌∷◌, ◌++◌, take, sym, ◌∙◌, ap, arith}
use Rattle.std.proofs.lemmas.List.{take_more, take_all}
use Rattle.feature_index.specs.Postings.{numbers_of}
use Rattle.swoosh_resolver.proofs.Keys.{AreGathered, gathered_none, gathered_more, gathered_same}
use Rattle.swoosh_resolver.proofs.posting.candidates.Goals as goal

pub loop-key-init : goal.loop-key-init
loop-key-init g c = gathered_none (numbers_of g.R.Key.PartialEq.eq c.args.postings.now) c.args.given.items

pub loop-key-preserved : goal.loop-key-preserved
loop-key-preserved g c =
    let under = numbers_of g.R.Key.PartialEq.eq c.args.postings.now in
    let keys = c.args.keys.now in
    let i = c.loop-key.key-index in
    let longer : take (i + 1) keys ≡ take i keys ++ c.key-item.result ∷ [] = take_more keys i c.key-item.result (omega arith) ∙ ap (λ k. take i keys ++ k ∷ []) (sym c.key-item.is) in
    rw (longer, c.in_ok-extend_from_slice.ensures.items, c.of.ensures.value)
    (gathered_more under c.args.given.items (take i keys) c.loop-key.numbers.items c.key-item.result c.loop-key.invariant)

pub returns-clause-members : goal.returns-clause-members
returns-clause-members g c =
    let under = numbers_of g.R.Key.PartialEq.eq c.args.postings.now in
    let keys = c.args.keys.now in
    let all : take c.loop-key.key-index keys ≡ keys = take_all c.loop-key.key-index keys (omega arith) in
    let gathered : AreGathered under c.args.given.items keys c.loop-key.numbers.items = rw all at c.loop-key.invariant in
    (gathered_same under c.args.given.items keys c.loop-key.numbers.items c.in_ok-numbers.numbers.items gathered c.in_ok-numbers.ensures.members).members
