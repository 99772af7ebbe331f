use Rattle.std.proofs.Common.{◌∙◌, ◌++◌, Bor, List, ap, ap₂}
use Rattle.std.specs.List.{flat_map}
use Rattle.union_base.specs.FieldOrder.{field_cmp}
use Rattle.union_base.specs.SortedLists.{is_ascending, set_of, union}
use Rattle.union_base.specs.declared.field.Field.{Field}
use Rattle.catalogue_editions.specs.Borrowed.{fields_of}
use Rattle.catalogue_export.specs.Holdings.{holdings_in, kept_fields, marked_fields}
use Rattle.catalogue_export.proofs.DealtLaws.{ascending-set_of, set-dealt}
use Rattle.catalogue_export.proofs.holdings.OwnedFields.of.Goals as goal

pub invariant_of-result : goal.invariant_of-result
invariant_of-result c =
    let kept = flat_map kept_fields (holdings_in c.args.holdings.now) in
    ap (is_ascending field_cmp)
    (c.in_ok-deal_all.ensures.kept ∙ ap (λ (fields : List (Bor Field)). fields_of fields ++ set_of field_cmp kept) c.new-kept.ensures.items)
    ∙ ascending-set_of kept

pub returns : goal.returns
returns c =
    let holdings = holdings_in c.args.holdings.now in
    let kept = flat_map kept_fields holdings in
    let marked = flat_map marked_fields holdings in
    ap₂ (union field_cmp)
    (c.in_ok-deal_all.ensures.kept ∙ ap (λ (fields : List (Bor Field)). fields_of fields ++ set_of field_cmp kept) c.new-kept.ensures.items)
    (c.in_ok-marked-2.ensures ∙ ap (set_of field_cmp) (c.in_ok-deal_all.ensures.marked ∙ ap (λ fields. fields ++ marked) c.in_ok-marked.ensures.items))
    ∙ set-dealt holdings
