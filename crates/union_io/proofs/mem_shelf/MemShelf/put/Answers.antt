-- What stands under another name is not touched.
use Rattle.union_io.proofs.NamesKept.{fails_other}
use Rattle.union_io.proofs.mem_shelf.MemShelf.put.Goals as goal

pub returns-clause-others : goal.returns-clause-others
returns-clause-others c = λ other differs. rw (← c.self.view_is) (c.in_ok-insert.ensures.updates.2 other (fails_other c.args.name other differs))
