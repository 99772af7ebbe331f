use Rattle.std.proofs.Common.{get_or}
use Rattle.merge_laws.proofs.Resolutions.{apart-from_resolution}
use Rattle.catalogue_editions.specs.JoinLaws.{edition_join_laws}
use Rattle.catalogue_editions.specs.MatchLaws.{edition_match_laws}
use Rattle.catalogue_editions.proofs.Apart.{match-from_contributor}
use Rattle.change_notices.proofs.laws.resolutions_can_be_held.Goals as goal

pub returns : goal.returns
returns c = λ list editions is. record {
  ascending = is.ascending;
  apart = λ i j d ij jl both.
      (apart-from_resolution edition_join_laws edition_match_laws list editions is.resolved i j d ij jl).0
      (match-from_contributor (get_or editions i d) (get_or editions j d) both.0 both.1 both.2);
}
