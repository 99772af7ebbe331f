use Rattle.std.proofs.Common.{append_assoc}
use Rattle.union_keys.specs.Tables.{record_row}
use Rattle.union_keys.proofs.table.add_record.Goals as goal

pub returns : goal.returns
unfolding record_row
returns c =
    rw (
      c.in_ok-add_word-3.ensures,
      c.loads.ensures,
      c.in_ok-add_word-2.ensures,
      c.in_ok-add_word.ensures,
      c.in_ok-add_id_number.ensures,
      c.in_ok-add_code.ensures,
    )
    (simp append_assoc)
