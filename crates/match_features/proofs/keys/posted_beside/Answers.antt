use Rattle.std.proofs.Common.{◌≡◌, true, sym, ◌∙◌}
use Rattle.match_features.specs.Posted.{has_keys_of}
use Rattle.match_features.proofs.BesideLaws.{features_kept}
use Rattle.match_features.proofs.keys.posted_beside.Goals as goal

pub returns-in_ok-keys_beside-clause-kept : goal.returns-in_ok-keys_beside-clause-kept
returns-in_ok-keys_beside-clause-kept c =
    let has : has_keys_of c.args.features.now c.args.base.now ≡ true = sym c.has_keys_of.ensures ∙ c.if-has_keys_of.true in
    features_kept c.args.features.now c.args.base.now has
