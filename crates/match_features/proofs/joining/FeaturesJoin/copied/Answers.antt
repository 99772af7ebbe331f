use Rattle.std.proofs.Common.{◌∙◌}
use Rattle.match_features.specs.Kept.{are_features}
use Rattle.match_features.specs.JoinLaws.{same_features}
use Rattle.match_features.proofs.joining.FeaturesJoin.copied.Goals as goal

pub invariant_of-result : goal.invariant_of-result
invariant_of-result c = record {
  kept = (λ i. are_features (c.in_ok-control.ensures i) (c.in_ok-types.ensures i) (c.in_ok-isbns.ensures i) (c.in_ok-issns.ensures i) (c.in_ok-titles.ensures i) (c.in_ok-dates.ensures i) (c.in_ok-names.ensures i))
      ∙ c.args.self.now.kept;
}

pub returns : goal.returns
returns c = same_features _ c.args.self.now (record {
  control = c.in_ok-control.ensures;
  types = c.in_ok-types.ensures;
  isbns = c.in_ok-isbns.ensures;
  issns = c.in_ok-issns.ensures;
  titles = c.in_ok-titles.ensures;
  dates = c.in_ok-dates.ensures;
  names = c.in_ok-names.ensures;
})
