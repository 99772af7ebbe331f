use Rattle.std.proofs.Common.{append_assoc}
use Rattle.union_explain.specs.Rows.{row}
use Rattle.union_explain.proofs.table.row.Goals as goal

pub returns-clause-value : goal.returns-clause-value
unfolding row
returns-clause-value c =
    rw (c.in_ok-add_words.ensures.text, c.requires, c.in_ok-add_names.ensures, c.bytes.ensures, c.in_ok-add_place.ensures, c.new-text.ensures.items)
    (simp append_assoc)
