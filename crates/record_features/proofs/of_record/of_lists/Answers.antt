use Rattle.std.proofs.Common.{◌∙◌}
use Rattle.match_features.specs.Kept.{are_features}
use Rattle.match_features.specs.KeptLaws.{kept_sets}
use Rattle.record_features.proofs.of_record.of_lists.Goals as goal

pub invariant_of-result : goal.invariant_of-result
invariant_of-result c = record {
  kept = (λ i. are_features (c.in_ok-control.ensures i) (c.in_ok-types.ensures i) (c.in_ok-isbns.ensures i) (c.in_ok-issns.ensures i) (c.in_ok-titles.ensures i) (c.in_ok-dates.ensures i) (c.in_ok-names.ensures i))
      ∙ kept_sets c.args.found.control.items c.args.types.items c.args.found.isbns.items c.args.found.issns.items c.args.found.titles.items c.args.dates.items c.args.found.names.items c.requires;
}
