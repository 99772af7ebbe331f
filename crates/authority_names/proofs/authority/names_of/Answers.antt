use Rattle.std.proofs.Common.{sym, ◌∙◌}
use Rattle.authority_names.proofs.RecordLaws.{texts-from_utf8}
use Rattle.authority_names.proofs.authority.names_of.Goals as goal

pub headings_of-requires : goal.headings_of-requires
headings_of-requires c = texts-from_utf8 c.as_slice-fields.result.now (sym c.are_utf8.ensures ∙ c.if-not-are_utf8.false)
