use Rattle.std.proofs.Common.{◌≡◌, ◌∙◌, refl, sym, get_or, true}
use Rattle.std.proofs.lemmas.List.{get_or_default}
use Rattle.std.proofs.lemmas.Str.{IsUtf8-from_is_utf8}
use Rattle.marc_leader.specs.declared.entry.Entry.{Entry}
use Rattle.marc_fields.specs.Rules.{is_tile}
use Rattle.marc_fields.proofs.AppendingLaws.{list_all-at}
use Rattle.marc_fields.proofs.FieldReading.{least-drop-later}
use Rattle.marc_rules.specs.Contents.{is_utf8_at}
use Rattle.marc_rules.specs.RequiredFields.{no_entry}
use Rattle.marc_rules.proofs.Utf8Laws.{utf8-tile}
use Rattle.marc_rules.proofs.contents.are_utf8_together.Goals as goal

pub loop-entry-preserved : goal.loop-entry-preserved
loop-entry-preserved c =
    let entries = c.args.entries.now in
    let bytes = c.args.bytes.now in
    let i = c.loop-entry.entry-index in
    let e : Entry = get_or entries i no_entry in
    let is : e ≡ get_or entries i e = get_or_default entries i no_entry e c.loop-entry-test.true in
    let tile = list_all-at (is_tile bytes) entries i e c.requires c.loop-entry-test.true is in
    let whole = IsUtf8-from_is_utf8 bytes (sym c.if-not-are_utf8.ensures) in
    let good : is_utf8_at bytes e ≡ true = utf8-tile bytes e whole tile (c.if-not-begins_character.ensures refl) in
    c.loop-entry.invariant ∙ least-drop-later (is_utf8_at bytes) entries i e c.loop-entry-test.true is good
