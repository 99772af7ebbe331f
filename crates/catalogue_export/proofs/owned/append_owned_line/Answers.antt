use Rattle.catalogue_export.proofs.EditionLaws.{utf8-with_owners}
use Rattle.catalogue_export.specs.Sources.{owned_line, owned_left}
use Rattle.catalogue_export.proofs.owned.append_owned_line.Goals as goal

pub to_json-requires : goal.to_json-requires
to_json-requires c = rw (c.in_ok-rec.ensures.value, c.bytes.ensures) (utf8-with_owners c.args.records.now c.args.edition.now c.in_ok-key.key c.in_ok-key.ensures.utf8)

pub returns-clause-text : goal.returns-clause-text
unfolding owned_line
returns-clause-text c = rw (c.in_ok-to_json.ensures.ok, c.in_ok-rec.ensures.value, c.bytes.ensures, c.in_ok-key.ensures.value)

pub returns-clause-left : goal.returns-clause-left
unfolding owned_left
returns-clause-left c = rw (c.in_ok-rec.ensures.left, c.bytes.ensures, c.in_ok-key.ensures.value)
