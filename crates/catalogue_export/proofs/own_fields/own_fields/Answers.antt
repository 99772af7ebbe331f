use Rattle.std.proofs.Common.{◌≡◌, ℕ, List, [], ◌∷◌, ◌∙◌, ap, codes, refl, sym}
use Rattle.std.specs.List.{flat_map}
use Rattle.std.specs.Option.{option_to_list}
use Rattle.field_merge.specs.declared.content.Content.{Content}
use Rattle.field_merge.specs.declared.fixed.Fixed.{Fixed}
use Rattle.catalogue_export.specs.Exported.{control_field, contributor_field, key_field, number_field, own_parts}
use Rattle.catalogue_export.specs.OwnFields.{own_list}
use Rattle.catalogue_export.specs.declared.own_fields.OwnFields.{OwnFields}
use Rattle.catalogue_export.proofs.SoundLaws.{sound-ids, sound-fixed}
use Rattle.catalogue_export.proofs.own_fields.own_fields.Goals as goal

own_list-is : (own : OwnFields) (c : Content) (key : List ℕ) → option_to_list own.number ≡ number_field c.contributors
    → control_field (codes "003") (codes "UNION") ≡ own.catalogue ∷ [] → control_field (codes "008") c.fixed.text ≡ own.fixed ∷ []
    → key_field key ≡ own.key ∷ [] → own.contributors.items ≡ flat_map contributor_field c.contributors → own_list own c ≡ own_parts c key
unfolding own_parts
own_list-is own c key number catalogue fixed shown contributors = rw (number, catalogue, fixed, shown, contributors) refl

pub first_number-requires : goal.first_number-requires
first_number-requires c = rw (c.as_slice-ids.ensures.value, c.contributors.ensures.value) (sound-ids c.args.content.now c.contributors.ensures.sound)

pub fixed_field-requires : goal.fixed_field-requires
fixed_field-requires c = rw c.fixed.ensures.value (sound-fixed c.args.content.now c.fixed.ensures.sound)

pub contributor_fields-requires : goal.contributor_fields-requires
contributor_fields-requires c = rw (c.as_slice-ids.ensures.value, c.contributors.ensures.value) (sound-ids c.args.content.now c.contributors.ensures.sound)

pub returns : goal.returns
returns c =
    let own : OwnFields = record {
      number = c.in_ok-first_number.field-0;
      catalogue = c.in_ok-catalogue_field.field-0;
      fixed = c.in_ok-fixed_field.field-0;
      key = c.in_ok-key_field.field-0;
      contributors = c.in_ok-contributor_fields.field-0;
    } in
    let ids = c.as_slice-ids.ensures.value ∙ c.contributors.ensures.value in
    own_list-is own c.args.content.now c.args.key.now (c.in_ok-first_number.ensures ∙ ap number_field ids)
    c.in_ok-catalogue_field.ensures
    (ap (λ (f : Fixed). control_field (codes "008") f.text) (sym c.fixed.ensures.value) ∙ c.in_ok-fixed_field.ensures)
    c.in_ok-key_field.ensures (c.in_ok-contributor_fields.ensures ∙ ap (flat_map contributor_field) ids)
