use Rattle.std.proofs.Common.{◌≡◌, ◌+◌, ◌-◌, take, subst}
use Rattle.feature_index.specs.Postings.{Exchanges}
use Rattle.feature_index.proofs.Ascending.{absent-after, one-less, Exchanges-then}
use Rattle.feature_index.proofs.places.exchange.Goals as goal

pub put_in-requires-clause-absent : goal.put_in-requires-clause-absent
put_in-requires-clause-absent c = absent-after (take c.args.count c.args.places) (take (c.args.count - 1) c.take_out.result) c.args.from c.args.to c.take_out.ensures.numbers c.requires.absent

pub returns-clause-numbers : goal.returns-clause-numbers
returns-clause-numbers c =
    let all : c.args.count - 1 + 1 ≡ c.args.count = one-less c.args.places c.args.count c.args.from c.requires.present in
    subst (λ n. Exchanges (take c.args.count c.args.places) (take n c.put_in.result) c.args.from c.args.to) all
    (Exchanges-then (take c.args.count c.args.places) (take (c.args.count - 1) c.take_out.result) (take (c.args.count - 1 + 1) c.put_in.result) c.args.from c.args.to c.take_out.ensures.numbers c.put_in.ensures.numbers)
