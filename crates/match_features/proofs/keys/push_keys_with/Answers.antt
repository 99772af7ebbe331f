use Rattle.std.proofs.Common.{ℕ, ◌∷◌, ◌++◌, [], List, map, take, append_assoc, sym, ◌∙◌, ap, slice_index_or}
use Rattle.std.proofs.lemmas.List.{map_more}
use Rattle.match_features.specs.declared.keys.FeatureKey.{FeatureKey}
use Rattle.match_features.specs.declared.keys.FeatureKey.TheVariants.{Description}
use Rattle.match_features.proofs.keys.push_keys_with.Goals as goal

pub loop-name-preserved : goal.loop-name-preserved
loop-name-preserved c =
    let key_of : List ℕ → FeatureKey = λ name. Description (c.args.title.now, c.args.date.now, name) in
    let names = c.args.names.now in
    let i = c.loop-name.name-index in
    let before = c.args.found.now.items in
    let made = c.in_ok-key.ensures ∙ (λ j. (c.bytes.ensures j, c.args.date.now, (c.bytes-in-loop-name.ensures ∙ c.name-item.is) j)) in
    c.in_ok-push.ensures.items
    ∙ (λ j. c.loop-name.invariant j ++ Description (made j) ∷ [])
    ∙ append_assoc before (map key_of (take i names)) (key_of (slice_index_or names i c.name-item.result) ∷ [])
    ∙ ap (λ keys. before ++ keys) (sym (map_more key_of names i c.name-item.result c.loop-name-test.true))
