use Rattle.marc_fields.specs.Spelling.{entry_bytes}
use Rattle.marc_fields.proofs.AppendingLaws.{Appends-extended}
use Rattle.marc_fields.proofs.encoding.append_entry.Goals as goal

pub returns : goal.returns
unfolding entry_bytes
returns c = Appends-extended c.extend_from_slice.result _ _ _ _ c.write_entry.ensures.text c.extend_from_slice.ensures.items
