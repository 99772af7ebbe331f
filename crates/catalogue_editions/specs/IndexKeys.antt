-- Which editions an index has under a key.
use Rattle.std.specs.Prelude.{Bool}
use Rattle.match_features.specs.Posted.{is_posted}
use Rattle.match_features.specs.declared.keys.FeatureKey.{FeatureKey}
use Rattle.catalogue_editions.specs.declared.edition.Edition.{Edition}

-- the key is one of the control pairs, the ISBNs, the ISSNs or the titles of the edition, or one for an index alone
abbrev pub has_key : FeatureKey → Edition → Bool
has_key key e = is_posted key e.features
