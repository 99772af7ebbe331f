use Rattle.std.proofs.Common.{◌∙◌, ap}
use Rattle.std.specs.List.{flat_map}
use Rattle.union_base.specs.FieldOrder.{field_cmp}
use Rattle.union_base.specs.SortedLists.{set_of}
use Rattle.field_merge.specs.declared.content.Content.{Content}
use Rattle.catalogue_export.specs.Owners.{record_fields}
use Rattle.catalogue_export.proofs.OwnersProof.{owned-all}
use Rattle.catalogue_export.proofs.owned.owned_parts.Goals as goal

pub returns-clause-parts : goal.returns-clause-parts
returns-clause-parts c =
    let records = c.args.records.now in
    let ids = c.as_slice.ensures.value ∙ (c.contributors.ensures.value ∙ ap (λ (k : Content). k.contributors) c.shown-content.ensures) in
    owned-all records c.args.edition.now c.args.key.now c.in_ok-own.own c.in_ok-united.united c.shown-content.result c.shown-content.ensures c.in_ok-own.ensures
    (c.in_ok-united.ensures ∙ ap (set_of field_cmp) (ap (flat_map (record_fields records)) ids))
