use Rattle.std.proofs.Common.{◌∙◌, sym, ap}
use Rattle.union_base.specs.Fields.{spelled}
use Rattle.union_base.specs.Readings.{body_in}
use Rattle.union_base.proofs.ReadingLaws.{body_in-data}
use Rattle.catalogue_export.proofs.fields.blank_body.Goals as goal

pub spelled_by-requires : goal.spelled_by-requires
spelled_by-requires c =
    let bytes = c.in_ok-of.ensures ∙ (c.as_slice.ensures.value ∙ c.in_ok-spell_blank.ensures) in
    ap (λ b. spelled (body_in b)) bytes
    ∙ (ap spelled (body_in-data 0x20 0x20 c.args.subfields.now c.requires.some c.requires.formed) ∙ sym bytes)

pub returns : goal.returns
returns c =
    let bytes = c.in_ok-of.ensures ∙ (c.as_slice.ensures.value ∙ c.in_ok-spell_blank.ensures) in
    c.spelled_by.ensures ∙ (ap body_in bytes ∙ body_in-data 0x20 0x20 c.args.subfields.now c.requires.some c.requires.formed)
