use Rattle.std.proofs.Common.{◌≡◌, ◌++◌, ℕ, List, Result, Ok, Err, OnOk}
use Rattle.marc_fields.specs.Appending.{Appends}
use Rattle.catalogue_export.specs.Sources.{owned_text, owned_left}
use Rattle.catalogue_export.proofs.owned.append_owned.Goals as goal

appended : {T E : Type 0} (result : Result T E) (old new text : List ℕ) → Appends result old new text → OnOk result (new ≡ old ++ text)
appended (Ok value) old new text is = is
appended (Err error) old new text is = tt

pub returns-clause-text : goal.returns-clause-text
unfolding owned_text
returns-clause-text c =
    appended c.append_bytes.result c.args.into.now.items c.append_bytes.new.into.items (owned_text c.args.names.now c.args.records.now c.args.edition.now)
    (rw (c.bytes.ensures, c.in_ok-key.ensures.value) at c.append_bytes.ensures.text)

pub returns-clause-left : goal.returns-clause-left
unfolding owned_left
returns-clause-left c = rw (c.bytes.ensures, c.in_ok-key.ensures.value) at c.append_bytes.ensures.left
