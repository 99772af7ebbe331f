use Rattle.std.proofs.Common.{ap}
use Rattle.match_features.specs.JoinLaws.{same_features}
use Rattle.match_features.specs.declared.features.Features.{Features}
use Rattle.edition_blocks.proofs.SameLaws.{seven-each, seven-all}
use Rattle.edition_blocks.proofs.same.are_same_features.Goals as goal

pub returns : goal.returns
returns c = (
  λ t. (let each = seven-each c.are_same_lists-control.result c.are_same_lists-types.result c.are_same_lists-isbns.result c.are_same_lists-issns.result c.are_same_lists-titles.result c.are_same_lists-dates.result c.are_same_lists-names.result t in
      same_features c.args.one.now c.args.other.now (record {
        control = c.are_same_lists-control.ensures.0 each.0;
        types = c.are_same_lists-types.ensures.0 each.1;
        isbns = c.are_same_lists-isbns.ensures.0 each.2;
        issns = c.are_same_lists-issns.ensures.0 each.3;
        titles = c.are_same_lists-titles.ensures.0 each.4;
        dates = c.are_same_lists-dates.ensures.0 each.5;
        names = c.are_same_lists-names.ensures.0 each.6;
      })),
  λ e. seven-all c.are_same_lists-control.result c.are_same_lists-types.result c.are_same_lists-isbns.result c.are_same_lists-issns.result c.are_same_lists-titles.result c.are_same_lists-dates.result c.are_same_lists-names.result
      (c.are_same_lists-control.ensures.1 (ap (λ (x : Features). x.control) e))
      (c.are_same_lists-types.ensures.1 (ap (λ (x : Features). x.types) e))
      (c.are_same_lists-isbns.ensures.1 (ap (λ (x : Features). x.isbns) e))
      (c.are_same_lists-issns.ensures.1 (ap (λ (x : Features). x.issns) e))
      (c.are_same_lists-titles.ensures.1 (ap (λ (x : Features). x.titles) e))
      (c.are_same_lists-dates.ensures.1 (ap (λ (x : Features). x.dates) e))
      (c.are_same_lists-names.ensures.1 (ap (λ (x : Features). x.names) e)),
)
