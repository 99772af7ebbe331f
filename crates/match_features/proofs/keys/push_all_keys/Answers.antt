use Rattle.std.proofs.Common.{◌≡◌, ◌+◌, ◌∷◌, ◌++◌, [], take, sym, ◌∙◌, ap, arith}
use Rattle.std.proofs.lemmas.List.{take_more, flat_map_more}
use Rattle.match_features.specs.KeyLists.{dated_keys}
use Rattle.match_features.proofs.keys.push_all_keys.Goals as goal

pub loop-title-preserved : goal.loop-title-preserved
loop-title-preserved c =
    let titles = c.args.titles.now in
    let i = c.loop-title.title-index in
    let title = c.title-item.result in
    let longer : take (i + 1) titles ≡ take i titles ++ title ∷ [] = take_more titles i title (omega arith) ∙ ap (λ t. take i titles ++ t ∷ []) (sym c.title-item.is) in
    rw (c.in_ok-push_dated_keys.ensures, c.loop-title.invariant, longer)
    (flat_map_more (λ t. dated_keys t c.args.dates.now c.args.names.now) c.args.found.now.items (take i titles) title)
