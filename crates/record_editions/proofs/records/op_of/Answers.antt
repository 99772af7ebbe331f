use Rattle.record_editions.proofs.OwnLaws.{own-edition}
use Rattle.record_editions.proofs.records.op_of.Goals as goal

pub returns-in_ok-edition-clause-own : goal.returns-in_ok-edition-clause-own
returns-in_ok-edition-clause-own c =
    own-edition c.args.prefer.now c.args.library.now c.args.rec _ c.in_ok-edition.ensures.parts
