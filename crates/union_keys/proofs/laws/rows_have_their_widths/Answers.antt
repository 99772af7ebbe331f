use Rattle.union_keys.proofs.RowLaws.{width-record, width-key}
use Rattle.union_keys.proofs.laws.rows_have_their_widths.Goals as goal

pub returns : goal.returns
returns c = record { of_record = width-record; of_key = width-key }
