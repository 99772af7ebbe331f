use Rattle.std.proofs.Common.{◌≡◌, ◌∙◌, ◌+◌, ◌/◌, ◌++◌, ◌∷◌, [], Bor, List, length, sym, ap, ap₂, append_assoc, arith}
use Rattle.std.specs.List.{flat_map}
use Rattle.std.proofs.lemmas.List.{nil_from_length}
use Rattle.std.proofs.lemmas.Result.{on_ok_weaker}
use Rattle.union_base.specs.FieldOrder.{field_cmp}
use Rattle.union_base.specs.SortedLists.{is_ascending, set_of, union}
use Rattle.union_base.specs.declared.field.Field.{Field}
use Rattle.catalogue_editions.specs.Borrowed.{fields_of}
use Rattle.catalogue_export.specs.Holdings.{holdings_in, kept_fields, marked_fields}
use Rattle.catalogue_export.specs.declared.holding.Holding.{Holding}
use Rattle.catalogue_export.proofs.DealtLaws.{split-in, ascending-set_of, kept-halves, marked-halves, kept-alone}
use Rattle.catalogue_export.proofs.holdings.+deal_records.Goals as goal

-- records of which the greater half is empty are none
alone : (xs right : List (Bor Holding)) → length right + length xs / 2 ≡ length xs → length right ≡ 0 → xs ≡ []
alone xs right size none = nil_from_length xs (omega (arith, size, none))

pub push_union-requires : goal.push_union-requires
push_union-requires t c =
    let left = flat_map kept_fields (c.args.first.now ∷ holdings_in c.split_at.result.0.now) in
    let right = flat_map kept_fields (c.in-Some.middle.now.now ∷ holdings_in c.in-Some.rest.now) in
    let one = ap fields_of c.as_slice.ensures.value ∙ c.in_ok-deal_records-in-Some.ensures.kept
    ∙ ap (λ (fields : List (Bor Field)). fields_of fields ++ set_of field_cmp left) c.new-one.ensures.items in
    let other = ap fields_of c.as_slice-in-Some.ensures.value ∙ c.in_ok-deal_records-in-Some-2.ensures.kept
    ∙ ap (λ (fields : List (Bor Field)). fields_of fields ++ set_of field_cmp right) c.new-other.ensures.items in
    record {
      one = ap (is_ascending field_cmp) one ∙ ascending-set_of left;
      other = ap (is_ascending field_cmp) other ∙ ascending-set_of right;
    }

pub returns-in_ok-deal_records-in-Some-2-clause-kept : goal.returns-in_ok-deal_records-in-Some-2-clause-kept
returns-in_ok-deal_records-in-Some-2-clause-kept t c =
    let left = flat_map kept_fields (c.args.first.now ∷ holdings_in c.split_at.result.0.now) in
    let right = flat_map kept_fields (c.in-Some.middle.now.now ∷ holdings_in c.in-Some.rest.now) in
    let one = ap fields_of c.as_slice.ensures.value ∙ c.in_ok-deal_records-in-Some.ensures.kept
    ∙ ap (λ (fields : List (Bor Field)). fields_of fields ++ set_of field_cmp left) c.new-one.ensures.items in
    let other = ap fields_of c.as_slice-in-Some.ensures.value ∙ c.in_ok-deal_records-in-Some-2.ensures.kept
    ∙ ap (λ (fields : List (Bor Field)). fields_of fields ++ set_of field_cmp right) c.new-other.ensures.items in
    let united = ap₂ (union field_cmp) one other
    ∙ kept-halves c.args.first.now (holdings_in c.args.behind.now) (holdings_in c.split_at.result.0.now) c.in-Some.middle.now.now (holdings_in c.in-Some.rest.now)
    (split-in c.args.behind.now c.split_at.result.0.now c.split_at.result.1.now c.split_at.ensures.by_index.0) (ap holdings_in c.in-Some.ensures.cases.0) in
    on_ok_weaker c.push_union.result (λ made. made ∙ ap (λ fields. fields_of c.args.kept.now.items ++ fields) united) c.push_union.ensures

pub returns-in_ok-deal_records-in-Some-2-clause-marked : goal.returns-in_ok-deal_records-in-Some-2-clause-marked
returns-in_ok-deal_records-in-Some-2-clause-marked t c =
    let first = c.args.first.now in
    let marked = c.args.marked.now.items in
    let left = flat_map marked_fields (first ∷ holdings_in c.split_at.result.0.now) in
    let right = flat_map marked_fields (c.in-Some.middle.now.now ∷ holdings_in c.in-Some.rest.now) in
    let all = c.in_ok-deal_records-in-Some-2.ensures.marked ∙ ap (λ fields. fields ++ right) c.in_ok-deal_records-in-Some.ensures.marked
    ∙ append_assoc marked left right
    ∙ ap (λ fields. marked ++ fields)
    (sym (marked-halves first (holdings_in c.args.behind.now) (holdings_in c.split_at.result.0.now) c.in-Some.middle.now.now (holdings_in c.in-Some.rest.now)
    (split-in c.args.behind.now c.split_at.result.0.now c.split_at.result.1.now c.split_at.ensures.by_index.0) (ap holdings_in c.in-Some.ensures.cases.0))) in
    on_ok_weaker c.push_union.result (λ _. all) c.push_union.ensures

pub returns-in-None-clause-kept : goal.returns-in-None-clause-kept
returns-in-None-clause-kept t c =
    let first = c.args.first.now in
    let behind = c.args.behind.now in
    let none = alone behind c.split_at.result.1.now c.split_at.ensures.back_len c.in-None.ensures.cases in
    on_ok_weaker c.deal_record.result (λ is. is ∙ ap (λ fields. fields_of c.args.kept.now.items ++ fields) (kept-alone first (holdings_in behind) (ap holdings_in none))) c.deal_record.ensures.kept
