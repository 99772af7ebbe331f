use Rattle.std.proofs.Common.{◌≡◌, ◌++◌, ◌+◌, drop, sym, ap, ◌∙◌, append_assoc, append-nil, arith}
use Rattle.std.specs.Prelude.{filter}
use Rattle.std.proofs.lemmas.List.{drop_all}
use Rattle.union_words.specs.Meanings.{libraries_meaning, file_meaning}
use Rattle.union_words.proofs.StopLaws.{drop-get}
use Rattle.union_explain.specs.Runs.{refused_in}
use Rattle.union_explain.specs.Conversions.{is_marc8, marc8_refusals}
use Rattle.union_explain.proofs.conversion.marc8_refusals.Goals as goal

pub loop-place-preserved : goal.loop-place-preserved
loop-place-preserved c =
    let all = libraries_meaning c.args.libraries.now in
    let report = c.args.report.now in
    let file = file_meaning c.at-file.result in
    let rest = marc8_refusals report (drop (c.loop-place.place + 1) all) in
    let refused : c.as_slice.result.now ≡ refused_in report file.library =
    c.as_slice.ensures.value ∙ (c.in_ok-refused.ensures.value ∙ ap (refused_in report) c.bytes.ensures.value) in
    ap (λ xs. xs ++ rest) (c.in_ok-add_marc8.ensures ∙ ap (λ xs. c.loop-place.found.items ++ filter is_marc8 xs) refused)
    ∙ (append_assoc c.loop-place.found.items (filter is_marc8 (refused_in report file.library)) rest
    ∙ (sym (ap (λ xs. c.loop-place.found.items ++ marc8_refusals report xs) (drop-get all c.loop-place.place file c.at-file.ensures))
    ∙ c.loop-place.invariant))

pub returns : goal.returns
returns c =
    let all = libraries_meaning c.args.libraries.now in
    let none = drop_all c.loop-place.place all (omega (arith, c.loop-place-test.false, c.len-place-end.ensures.value)) in
    sym (append-nil c.loop-place.found.items)
    ∙ (ap (λ xs. c.loop-place.found.items ++ marc8_refusals c.args.report.now xs) (sym none) ∙ c.loop-place.invariant)
