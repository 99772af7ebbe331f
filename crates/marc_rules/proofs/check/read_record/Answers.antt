use Rattle.std.proofs.Common.{◌∙◌, sym, ap, subst, List}
use Rattle.std.specs.List.{list_all}
use Rattle.marc_leader.specs.declared.entry.Entry.{Entry}
use Rattle.union_base.specs.declared.field.Field.{Field}
use Rattle.marc_fields.specs.Rules.{leader_of_frame, is_tile}
use Rattle.marc_fields.specs.Shapes.{ends_no_record}
use Rattle.marc_fields.specs.Spelling.{AreEntriesOf}
use Rattle.marc_fields.proofs.DecodingLaws.{front-base, data-parts, decoded-Spells}
use Rattle.marc_fields.proofs.TilingLaws.{tiles-all}
use Rattle.marc_rules.proofs.CheckLaws.{sound-parts}
use Rattle.marc_rules.proofs.check.read_record.Goals as goal

pub split_frame-parts-requires-clause-low : goal.split_frame-parts-requires-clause-low
split_frame-parts-requires-clause-low c =
    (front-base (leader_of_frame c.args.frame.now) c.args.frame.now c.args.sound.now.front.codes c.args.sound.now.front.base c.requires.sound.front).low

pub split_frame-parts-requires-clause-high : goal.split_frame-parts-requires-clause-high
split_frame-parts-requires-clause-high c =
    (front-base (leader_of_frame c.args.frame.now) c.args.frame.now c.args.sound.now.front.codes c.args.sound.now.front.base c.requires.sound.front).high

pub read_fields-requires-clause-tiles : goal.read_fields-requires-clause-tiles
read_fields-requires-clause-tiles c =
    let bytes = c.split_frame-parts.result.bytes.now in
    let sound = sound-parts c.args.frame.now c.args.sound.now.front.base _ bytes c.args.sound.now.entries.items c.split_frame-parts.ensures.directory
    c.split_frame-parts.ensures.bytes c.requires.sound.sound in
    ap (list_all (is_tile bytes)) c.as_slice.ensures.value ∙ tiles-all bytes c.args.sound.now.entries.items sound.tiled

pub read_fields-requires-clause-inner : goal.read_fields-requires-clause-inner
read_fields-requires-clause-inner c =
    let has = front-base (leader_of_frame c.args.frame.now) c.args.frame.now c.args.sound.now.front.codes c.args.sound.now.front.base c.requires.sound.front in
    ap ends_no_record c.split_frame-parts.ensures.bytes ∙ (data-parts c.args.frame.now c.args.sound.now.front.base has c.requires.frame.ends).1

pub returns : goal.returns
returns c =
    let frame = c.args.frame.now in
    let base = c.args.sound.now.front.base in
    let items = c.args.sound.now.entries.items in
    let directory = c.split_frame-parts.result.directory.now in
    let bytes = c.split_frame-parts.result.bytes.now in
    let d = c.split_frame-parts.ensures.directory in
    let b = c.split_frame-parts.ensures.bytes in
    let sound = sound-parts frame base directory bytes items d b c.requires.sound.sound in
    let Lie : List Entry → List Field → Type 0 = λ es fs. AreEntriesOf bytes es fs in
    let lie : Lie items c.from.result
    = subst (λ es. Lie es c.from.result) c.as_slice.ensures.value (subst (Lie c.as_slice.result.now) (sym c.from.ensures) c.in_ok-fields.ensures) in
    decoded-Spells frame c.args.sound.now.front.codes base directory bytes c.from.result c.requires.sound.front c.requires.frame.size c.requires.frame.ends
    d b (record { entries = items; read = sound.read; tiled = sound.tiled; lie = lie })
