-- Records in parts, each with what it resolves to by itself.
use Rattle.std.specs.Prelude.{◌↔◌, IsTrue, List, [], ◌∷◌, ◌++◌, Contains}
use Rattle.std.specs.List.Sorted.{IsPermutation}
use Rattle.union_base.specs.SortedLists.{is_ascending}
use Rattle.match_features.specs.declared.keys.FeatureKey.{FeatureKey}
use Rattle.catalogue_editions.specs.Ids.{edition_cmp}
use Rattle.catalogue_editions.specs.Matching.{match, SeeksKey, IsPostedUnder}
use Rattle.catalogue_editions.specs.Resolutions.{IsOrderedResolution}
use Rattle.catalogue_editions.specs.declared.edition.Edition.{Edition}

-- some records, as their editions, and what they come to by themselves
pub record Part : Type 0 where
  pub records : List Edition
  pub editions : List Edition
  pub resolved : IsOrderedResolution records editions

-- the records of all parts
abbrev pub records_of : List Part → List Edition
records_of [] = []
records_of (part ∷ rest) = part.records ++ records_of rest

-- the editions of all parts
abbrev pub editions_of : List Part → List Edition
editions_of [] = []
editions_of (part ∷ rest) = part.editions ++ editions_of rest

-- no edition of the one list matches one of the other
abbrev pub DoNotMeet : List Edition → List Edition → Type 0
DoNotMeet one other = (x y : Edition) → Contains one x → Contains other y → IsTrue (match x y) → ⊥

-- no edition of a part matches one of another part
abbrev pub ArePartsApart : List Part → Type 0
ArePartsApart [] = Unit {0}
ArePartsApart (part ∷ rest) = DoNotMeet part.editions (editions_of rest) × ArePartsApart rest

-- the one seeks no key under which an index has the other
abbrev pub ShareNoCandidate : Edition → Edition → Type 0
ShareNoCandidate x y = (key : FeatureKey) → SeeksKey x key → IsPostedUnder y key → ⊥

-- no edition of a part has a candidate key in common with one of a later part
abbrev pub SharePartsNoCandidate : List Part → Type 0
SharePartsNoCandidate [] = Unit {0}
SharePartsNoCandidate (part ∷ rest) =
    ((x y : Edition) → Contains part.editions x → Contains (editions_of rest) y → ShareNoCandidate x y) × SharePartsNoCandidate rest

-- the list has the members of the other, in any order and any number of times
abbrev pub HasMembersOf : List Edition → List Edition → Type 0
HasMembersOf list other = (x : Edition) → Contains list x ↔ Contains other x

-- the editions of all parts, merged in order of their least contributors
pub record AreMerged (parts : List Part) (merged : List Edition) : Type 0 where
  pub same : IsPermutation (editions_of parts) merged
  pub ascending : IsTrue (is_ascending edition_cmp merged)
