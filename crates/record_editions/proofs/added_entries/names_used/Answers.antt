use Rattle.std.proofs.Common.{Bor, List, ◌++◌, ℕ, sym, ap, ap₂, ◌∙◌, take, take_all}
use Rattle.std.specs.Prelude.{fold}
use Rattle.std.proofs.lemmas.List.Folds.{fold-map}
use Rattle.std.proofs.lemmas.List.Sums.{fold_more}
use Rattle.field_merge.specs.declared.content.Content.{Content}
use Rattle.workset_keys.specs.WorkKeys.{lesser, least_of}
use Rattle.catalogue_editions.specs.Borrowed.{contents_of}
use Rattle.record_editions.specs.EditionKeys.{added_names}
use Rattle.catalogue_editions.specs.Joined.{joined_all}
use Rattle.catalogue_editions.proofs.JoinedLaws.{joined-part}
use Rattle.record_editions.proofs.LeastNames.{least-append, least-union}
use Rattle.record_editions.proofs.added_entries.names_used.Goals as goal

pub loop-other-preserved : goal.loop-other-preserved
loop-other-preserved c =
    let behind = c.as_slice-behind.result.now in
    let other = c.other-item.result in
    let added = added_names c.args.names.now other.now.united in
    let step : List ℕ → Bor Content → List ℕ = λ least d. lesser least (least_of (added_names c.args.names.now d.now.united)) in
    let begun = least_of c.push_names.new.used.items in
    let before = fold step begun (take c.loop-other.other-index behind) in
    ap least_of c.in_ok-push_names-2.ensures ∙ least-append c.loop-other.used.items added ∙ ap (λ least. lesser least (least_of added)) c.loop-other.invariant
    ∙ sym (fold_more step begun behind c.loop-other.other-index other c.loop-other-test.true ∙ ap (step before) (sym c.other-item.is))

pub returns : goal.returns
returns c =
    let names = c.args.names.now in
    let first = c.in_ok-first.first.now in
    let behind = c.as_slice-behind.result.now in
    let least_in : Content → List ℕ = λ d. least_of (added_names names d.united) in
    c.loop-other.invariant
    ∙ ap₂ (λ (used : List (List ℕ)) (others : List (Bor Content)). fold (λ least d. lesser least (least_in d.now)) (least_of used) others)
    (c.in_ok-push_names.ensures ∙ ap (λ (used : List (List ℕ)). used ++ added_names names first.united) c.new-used.ensures.items)
    (take_all c.loop-other.other-index behind c.loop-other-test.false)
    ∙ sym (fold-map (λ least d. lesser least (least_in d)) (λ (d : Bor Content). d.now) (least_in first) behind)
    ∙ joined-part least_in lesser (λ a b. least-union names a.united b.united) first (contents_of behind)
    ∙ ap (λ cs. least_in (joined_all first cs)) (ap contents_of c.as_slice-behind.ensures.value)
    ∙ ap least_in c.in_ok-first.ensures
