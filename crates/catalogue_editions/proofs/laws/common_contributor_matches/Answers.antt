use Rattle.catalogue_editions.proofs.Apart.{match-from_contributor, least-apart}
use Rattle.catalogue_editions.proofs.laws.common_contributor_matches.Goals as goal

pub returns : goal.returns
returns c = record { any = match-from_contributor; least = least-apart }
