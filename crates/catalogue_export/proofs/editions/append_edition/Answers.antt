use Rattle.std.proofs.Common.{◌≡◌, ◌++◌, ℕ, List, Result, Ok, Err, OnOk}
use Rattle.marc_fields.specs.Appending.{Appends}
use Rattle.catalogue_export.specs.Editions.{edition_text, fields_left}
use Rattle.catalogue_export.proofs.editions.append_edition.Goals as goal

appended : {T E : Type 0} (result : Result T E) (old new text : List ℕ) → Appends result old new text → OnOk result (new ≡ old ++ text)
appended (Ok value) old new text is = is
appended (Err error) old new text is = tt

pub returns-clause-text : goal.returns-clause-text
unfolding edition_text
returns-clause-text c =
    appended c.edition_bytes.result c.args.into.now.items c.edition_bytes.new.into.items (edition_text c.args.names.now c.args.edition.now)
    (rw (c.in_ok-key.ensures.value, c.shown.ensures) at c.edition_bytes.ensures.text)

pub returns-clause-left : goal.returns-clause-left
unfolding fields_left
returns-clause-left c = rw (c.in_ok-key.ensures.value, c.shown.ensures) at c.edition_bytes.ensures.left
