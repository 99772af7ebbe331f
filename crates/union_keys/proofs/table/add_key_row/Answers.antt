use Rattle.std.proofs.Common.{append_assoc}
use Rattle.union_keys.specs.Tables.{key_row}
use Rattle.union_keys.proofs.table.add_key_row.Goals as goal

pub returns : goal.returns
unfolding key_row
returns c =
    rw (c.in_ok-add_word-2.ensures, c.in_ok-add_word.ensures, c.in_ok-add_key_number.ensures) (simp append_assoc)
