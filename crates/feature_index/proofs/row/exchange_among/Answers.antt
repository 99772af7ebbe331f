use Rattle.feature_index.proofs.Ascending.{absent-after, Exchanges-then}
use Rattle.feature_index.proofs.row.exchange_among.Goals as goal

pub put_among-requires-clause-absent : goal.put_among-requires-clause-absent
put_among-requires-clause-absent c = absent-after c.args.list.now.items c.take_from.new.list.items c.args.from c.args.to c.take_from.ensures.numbers c.requires.absent

pub returns-clause-numbers : goal.returns-clause-numbers
returns-clause-numbers c =
    Exchanges-then c.args.list.now.items c.take_from.new.list.items c.put_among.new.list.items c.args.from c.args.to c.take_from.ensures.numbers c.put_among.ensures.numbers
