-- Editions match as their features meet.
use Rattle.merge_laws.specs.Resolution.{MatchLaws, KeyLaws}
use Rattle.merge_laws.specs.Candidates.{SeekingLaws, FindingLaws}
use Rattle.match_features.proofs.MeetLaws.{features_match_laws}
use Rattle.match_features.proofs.KeyLaws.{features_key_laws}
use Rattle.match_features.proofs.PostedLaws.{features_seeking_laws}
use Rattle.match_features.proofs.FindingLaws.{features_finding_laws}
use Rattle.catalogue_editions.specs.Joining.{join}
use Rattle.catalogue_editions.specs.Matching.{match, HasFeatureKey, IsPostedUnder, SeeksKey, share, is_found}

-- each edition matches itself, matching goes both ways, and what matches an edition matches what it is merged into
pub edition_match_laws : MatchLaws match join
edition_match_laws = record {
  reflexive = λ x. features_match_laws.reflexive x.features;
  symmetric = λ x y. features_match_laws.symmetric x.features y.features;
  representative = λ x y z. features_match_laws.representative x.features y.features z.features;
}

-- editions match by common keys, and a merged edition has the keys of both
pub edition_key_laws : KeyLaws match join HasFeatureKey share
edition_key_laws = record {
  matching = λ x y. features_key_laws.matching x.features y.features;
  merged = λ x y key. features_key_laws.merged x.features y.features key;
  shared = λ x y. features_key_laws.shared x.features y.features;
}

-- an edition is found, by a key that it is sought by, by each edition that it matches
pub edition_seeking_laws : SeekingLaws match IsPostedUnder SeeksKey share
edition_seeking_laws = record {
  matching = λ x y. features_seeking_laws.matching x.features y.features;
  near = λ x y. features_seeking_laws.near x.features y.features;
}

-- what an edition finds it finds too once it is merged with another
pub edition_finding_laws : FindingLaws join IsPostedUnder SeeksKey is_found
edition_finding_laws = record {
  found = λ w x. features_finding_laws.found w.features x.features;
  grows = λ w x y. features_finding_laws.grows w.features x.features y.features;
}
