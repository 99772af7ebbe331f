use Rattle.std.proofs.Common.{append_assoc}
use Rattle.union_explain.specs.Rows.{word_cells}
use Rattle.union_explain.proofs.table.add_words.Goals as goal

pub returns-clause-text : goal.returns-clause-text
unfolding word_cells
returns-clause-text c =
    rw (c.in_ok-push.ensures.items, c.in_ok-add_next-2.ensures, c.advised_of.ensures, c.in_ok-add_next.ensures, c.said_of.ensures)
    (simp append_assoc)
