use Rattle.std.proofs.Common.{◌∙◌, ◌++◌, refl, ap, ap₂, sym}
use Rattle.std.proofs.lemmas.Result.{on_ok_weaker}
use Rattle.union_base.specs.FieldOrder.{field_cmp}
use Rattle.union_base.specs.SortedLists.{is_ascending, union}
use Rattle.field_merge.specs.MergingLaws.{ascending_united}
use Rattle.field_merge.specs.declared.content.Content.{Content}
use Rattle.catalogue_editions.specs.Borrowed.{fields_of, contents_of}
use Rattle.catalogue_editions.specs.Joined.{joined_all}
use Rattle.catalogue_editions.proofs.JoinedLaws.{joined-both, halves-of}
use Rattle.catalogue_editions.proofs.united.+push_united.Goals as goal

pub push_union-requires : goal.push_union-requires
push_union-requires t c =
    let first = c.args.first.now in
    let left = contents_of c.split_at.result.0.now in
    let middle = c.in-Some.middle.now.now in
    let rest = contents_of c.in-Some.rest.now in
    let one = ap fields_of c.as_slice.ensures.value ∙ c.in_ok-push_united-in-Some.ensures
    ∙ ap (λ fields. fields_of fields ++ (joined_all first left).united) c.new-one.ensures.items in
    let other = ap fields_of c.as_slice-in-Some.ensures.value ∙ c.in_ok-push_united-in-Some-2.ensures
    ∙ ap (λ fields. fields_of fields ++ (joined_all middle rest).united) c.new-other.ensures.items in
    record {
      one = ap (is_ascending field_cmp) one ∙ ascending_united (joined_all first left);
      other = ap (is_ascending field_cmp) other ∙ ascending_united (joined_all middle rest);
    }

pub returns-in_ok-push_united-in-Some-2 : goal.returns-in_ok-push_united-in-Some-2
returns-in_ok-push_united-in-Some-2 t c =
    let first = c.args.first.now in
    let behind = c.args.behind.now in
    let left = contents_of c.split_at.result.0.now in
    let middle = c.in-Some.middle.now.now in
    let rest = contents_of c.in-Some.rest.now in
    let one = ap fields_of c.as_slice.ensures.value ∙ c.in_ok-push_united-in-Some.ensures
    ∙ ap (λ fields. fields_of fields ++ (joined_all first left).united) c.new-one.ensures.items in
    let other = ap fields_of c.as_slice-in-Some.ensures.value ∙ c.in_ok-push_united-in-Some-2.ensures
    ∙ ap (λ fields. fields_of fields ++ (joined_all middle rest).united) c.new-other.ensures.items in
    let whole = halves-of behind c.split_at.result.0.now c.in-Some.middle.now c.in-Some.rest.now c.split_at.ensures.by_index.0 c.in-Some.ensures.cases.0 in
    let merge = joined-both first first left middle rest (contents_of behind) (joined_all first left) (joined_all middle rest) refl whole refl refl in
    let united = ap₂ (union field_cmp) one other ∙ sym (ap (λ (x : Content). x.united) merge) in
    on_ok_weaker c.push_union.result (λ made. made ∙ ap (λ fields. fields_of c.args.into.now.items ++ fields) united) c.push_union.ensures
