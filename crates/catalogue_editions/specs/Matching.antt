-- Which editions match, the keys that an edition has, and those of an index: by its features alone.
use Rattle.std.specs.Prelude.{◌≡◌, Bool, List}
use Rattle.match_features.specs.Meeting.{meet}
use Rattle.match_features.specs.Finding.{is_found_for}
use Rattle.match_features.specs.Keys.{HasKey, share_key}
use Rattle.match_features.specs.Posted.{IsPosted, Seeks, SeeksBeside, has_keys_of}
use Rattle.match_features.specs.KeyLists.{sought}
use Rattle.match_features.specs.declared.keys.FeatureKey.{FeatureKey}
use Rattle.catalogue_editions.specs.declared.edition.Edition.{Edition}

-- editions match as their features do
abbrev pub match : Edition → Edition → Bool
match x y = meet x.features y.features

-- the edition's features have the key
abbrev pub HasFeatureKey : Edition → FeatureKey → Type 0
HasFeatureKey x key = HasKey x.features key

-- whether two have a key in common
abbrev pub share : Edition → Edition → Bool
share x y = share_key x.features y.features

-- the key is one under which an index has the edition
abbrev pub IsPostedUnder : Edition → FeatureKey → Type 0
IsPostedUnder x key = IsPosted x.features key

-- the key is one by which an index is asked for editions that may match this one
abbrev pub SeeksKey : Edition → FeatureKey → Type 0
SeeksKey x key = Seeks x.features key

-- whether the first edition is posted under a key by which an index is asked for the second
abbrev pub is_found : Edition → Edition → Bool
is_found x y = is_found_for x.features y.features

-- the list has the keys by which an index is asked for editions that may match this one, in order
abbrev pub IsSoughtBy : Edition → List FeatureKey → Type 0
IsSoughtBy x keys = keys ≡ sought x.features

-- whether x has all features that y has, so that an index has x under each key under which it has y
abbrev pub has_features_of : Edition → Edition → Bool
has_features_of x y = has_keys_of x.features y.features

-- the key is one by which an index is asked for editions that may match x, where y matches none of them: a control pair of y
-- is not one
abbrev pub SeeksKeyBeside : Edition → Edition → FeatureKey → Type 0
SeeksKeyBeside x y key = SeeksBeside x.features y.features key
