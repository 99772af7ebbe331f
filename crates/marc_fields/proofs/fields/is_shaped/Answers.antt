use Rattle.std.proofs.Common.{◌≡◌, ◌∙◌, ℕ, List, false, refl, sym, ap}
use Rattle.union_base.specs.Fields.{is_control_tag}
use Rattle.marc_fields.specs.Rules.{text_of}
use Rattle.marc_fields.specs.Shapes.{are_indicated, has_data_shape, has_shape}
use Rattle.marc_fields.proofs.FieldReading.{coded-tile, indicated-shape}
use Rattle.marc_fields.proofs.fields.is_shaped.Goals as goal

-- a data field's shape is asked for
data_asked : (tag text : List ℕ) → is_control_tag tag ≡ false → has_data_shape text ≡ has_shape tag text
data_asked tag text other = rw other refl

pub returns-else-is_control_tag : goal.returns-else-is_control_tag
returns-else-is_control_tag c =
    let e = c.args.entry.now in
    let bytes = c.args.bytes.now in
    let text = text_of bytes e in
    c.are_indicated.ensures
    ∙ (ap are_indicated c.text_in-text.ensures
    ∙ (indicated-shape text (coded-tile bytes e c.requires.tile c.requires.coded) ∙ data_asked e.tag text (sym c.if-is_control_tag.ensures)))
