use Rattle.catalogue_export.proofs.EditionLaws.{utf8-by_key}
use Rattle.catalogue_export.specs.Editions.{fields_left}
use Rattle.catalogue_export.specs.JsonExport.{edition_line}
use Rattle.catalogue_export.proofs.json_export.append_line.Goals as goal

pub to_json-requires : goal.to_json-requires
to_json-requires c = rw (c.in_ok-rec.ensures.value, c.shown.ensures) (utf8-by_key c.args.edition.now c.in_ok-key.key c.in_ok-key.ensures.utf8)

pub returns-clause-text : goal.returns-clause-text
unfolding edition_line
returns-clause-text c = rw (c.in_ok-to_json.ensures.ok, c.in_ok-rec.ensures.value, c.in_ok-key.ensures.value, c.shown.ensures)

pub returns-clause-left : goal.returns-clause-left
unfolding fields_left
returns-clause-left c = rw (c.in_ok-rec.ensures.left, c.in_ok-key.ensures.value, c.shown.ensures)
