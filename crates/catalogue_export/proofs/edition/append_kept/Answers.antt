use Rattle.std.proofs.Common.{◌≡◌, ◌∙◌, Bor, map, sym, ap, refl, Option, None, Some}
use Rattle.union_base.specs.declared.field.Field.{Field}
use Rattle.marc_fields.specs.Appending.{too_long, IsCause}
use Rattle.marc_fields.specs.Spelling.{record_of}
use Rattle.marc_fields.specs.declared.encoding.EncodeRefusal.{EncodeRefusal}
use Rattle.marc_fields.specs.declared.encoding.EncodeRefusal.TheVariants.{FieldTooLong, RecordTooLong, Memory}
use Rattle.catalogue_export.proofs.SoundLaws.{kept-fits}
use Rattle.catalogue_export.proofs.edition.append_kept.Goals as goal

-- a record that can be spelled is refused for want of memory alone
for_memory : (refusal : EncodeRefusal) (cause : Option EncodeRefusal) → cause ≡ None → IsCause refusal cause → refusal ≡ Memory
for_memory Memory cause none is = refl
for_memory FieldTooLong cause none is = let clash : Some FieldTooLong ≡ None = sym is ∙ none in cc
for_memory RecordTooLong cause none is = let clash : Some RecordTooLong ≡ None = sym is ∙ none in cc

pub unreachable-requires : goal.unreachable-requires
unreachable-requires c =
    let is = ap (map (λ (f : Bor Field). f.now)) c.as_slice.ensures.value ∙ c.in_ok-shown.ensures.value in
    let none = ap (λ fields. too_long (record_of c.args.codes fields)) is ∙ kept-fits c.args.codes (map (λ (f : Bor Field). f.now) c.args.all.items) c.requires in
    let refusal = c.in-Err-FieldTooLong in
    let clash : FieldTooLong ≡ Memory = sym refusal.field-0-is ∙ for_memory refusal.field-0 _ none refusal.ensures.refused_exactly in cc

pub unreachable-requires-in-Err-RecordTooLong : goal.unreachable-requires-in-Err-RecordTooLong
unreachable-requires-in-Err-RecordTooLong c =
    let is = ap (map (λ (f : Bor Field). f.now)) c.as_slice.ensures.value ∙ c.in_ok-shown.ensures.value in
    let none = ap (λ fields. too_long (record_of c.args.codes fields)) is ∙ kept-fits c.args.codes (map (λ (f : Bor Field). f.now) c.args.all.items) c.requires in
    let refusal = c.in-Err-RecordTooLong in
    let clash : RecordTooLong ≡ Memory = sym refusal.field-0-is ∙ for_memory refusal.field-0 _ none refusal.ensures.refused_exactly in cc
