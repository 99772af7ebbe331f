use Rattle.std.proofs.Common.{◌≡◌, ◌≤◌, ◌∙◌, Bor, sym, ap, length, map, arith}
use Rattle.std.proofs.lemmas.List.{length-map, length-take-le, take-map}
use Rattle.union_base.specs.declared.field.Field.{Field}
use Rattle.catalogue_export.specs.TagOrder.{in_tag_order}
use Rattle.catalogue_export.proofs.shown_fields.kept_fields.Goals as goal

pub fitting_count-shown-requires : goal.fitting_count-shown-requires
fitting_count-shown-requires c = rw c.as_slice.ensures.value c.requires

pub returns-clause-value : goal.returns-clause-value
returns-clause-value c =
    let see = λ (f : Bor Field). f.now in
    let n = c.fitting_count-shown.result in
    let fits = rw c.as_slice.ensures.value at c.fitting_count-shown.ensures.fitting in
    c.in_ok-in_tag_order.ensures
    ∙ ap in_tag_order
    (ap (map see) c.truncate.ensures.items
    ∙ (sym (take-map see n c.args.all.items) ∙ sym fits))

pub returns-clause-left : goal.returns-clause-left
returns-clause-left c =
    let see = λ (f : Bor Field). f.now in
    let n = c.fitting_count-shown.result in
    let all = map see c.args.all.items in
    let fits = rw c.as_slice.ensures.value at c.fitting_count-shown.ensures.fitting in
    let many : length all ≡ length c.as_slice.result.now
    = length-map c.args.all.items see ∙ ap length (sym c.as_slice.ensures.value) in
    let within : n ≤ length all = omega (arith, c.fitting_count-shown.ensures.bound, many) in
    omega (arith, c.len-all.ensures, c.as_slice.ensures.len, many, ap length fits, length-take-le n all within)
