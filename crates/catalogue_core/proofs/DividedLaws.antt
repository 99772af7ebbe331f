-- Records in parts of which no two match: the resolution of all is the resolutions of the parts together.
use Rattle.std.proofs.Common.{◌≡◌, Bool, true, false, IsTrue, List, [], ◌∷◌, ◌++◌, refl, arith}
use Rattle.std.specs.Prelude.{◌↔◌, Contains}
use Rattle.merge_laws.specs.Resolution.{JoinLaws, MatchLaws, member, IsResolution, DoNotMatch, AreApart}
use Rattle.merge_laws.proofs.Places.{AllPairs-none, AllPairs-append}
use Rattle.merge_laws.proofs.Resolutions.{IsDominated-refl, IsResolution-from_apart, IsResolution-append, IsResolution-through, IsResolution-permutation, IsPermutation-from_resolutions, apart-from_resolution}
use Rattle.catalogue_editions.specs.Joining.{join}
use Rattle.catalogue_editions.specs.JoinLaws.{edition_join_laws}
use Rattle.catalogue_editions.specs.Matching.{match}
use Rattle.catalogue_editions.specs.MatchLaws.{edition_match_laws, edition_seeking_laws}
use Rattle.catalogue_editions.specs.Resolutions.{IsOrderedResolution}
use Rattle.catalogue_editions.specs.declared.edition.Edition.{Edition}
use Rattle.catalogue_core.specs.Parts.{Part, records_of, editions_of, ArePartsApart, ShareNoCandidate, SharePartsNoCandidate, HasMembersOf, AreMerged}

module _ {A : Type 0} {match : A → A → Bool} {merge : A → A → A} (join : JoinLaws merge) (laws : MatchLaws match merge) where
  -- no values have no resolution but none
  IsResolution-none : IsResolution match merge [] []
  IsResolution-none =
      IsResolution-from_apart join laws [] [] (λ e c. member c) (λ x (k, kl, e). absurd (omega arith)) (AllPairs-none (DoNotMatch match))

  -- where the resolutions of two lists do not match, they are together the resolution of both lists
  IsResolution-both : (I J E F : List A) → IsResolution match merge I E → IsResolution match merge J F
      → ((x y : A) → Contains E x → Contains F y → IsTrue (match x y) → ⊥) → IsResolution match merge (I ++ J) (E ++ F)
  IsResolution-both I J E F p q never =
      let apart : AreApart match (E ++ F) =
      AllPairs-append (DoNotMatch match) E F (apart-from_resolution join laws I E p) (apart-from_resolution join laws J F q)
      (λ x y cx cy. (never x y cx cy, λ m. never x y cx cy (laws.symmetric y x m)))
      in
      IsResolution-append join laws I J E F (E ++ F) p q
      (IsResolution-from_apart join laws (E ++ F) (E ++ F) (λ e c. member c) (λ x c. (x, c, IsDominated-refl join laws x)) apart)

  -- a resolution depends on the members of a list alone
  IsResolution-members : (I J E : List A) → ((x : A) → Contains I x ↔ Contains J x) → IsResolution match merge J E
      → IsResolution match merge I E
  IsResolution-members I J E same r =
      IsResolution-through join laws I J E (λ y c. member ((same y).1 c)) (λ x c. (x, (same x).0 c, IsDominated-refl join laws x)) r

-- editions that share no candidate key do not match
pub apart-from_keys : (x y : Edition) → ShareNoCandidate x y → IsTrue (match x y) → ⊥
apart-from_keys x y free m = let (key, seeks, posted) = edition_seeking_laws.matching x y m in free key seeks posted

pub unmatched-from_keys : (x y : Edition) → ShareNoCandidate x y → match x y ≡ false
unmatched-from_keys x y free = elim (match x y) as (λ b. match x y ≡ b → b ≡ false) [
  | true ↦ λ is. absurd (apart-from_keys x y free is)
  | false ↦ λ is. refl
] refl

pub parts_apart-from_keys : (parts : List Part) → SharePartsNoCandidate parts → ArePartsApart parts
parts_apart-from_keys [] free = tt
parts_apart-from_keys (part ∷ rest) free =
    ((λ x y cx cy. apart-from_keys x y (free.0 x y cx cy)), parts_apart-from_keys rest free.1)

resolved-from_parts : (parts : List Part) → ArePartsApart parts → IsResolution match join (records_of parts) (editions_of parts)
resolved-from_parts [] apart = IsResolution-none edition_join_laws edition_match_laws
resolved-from_parts (part ∷ rest) apart =
    IsResolution-both edition_join_laws edition_match_laws part.records (records_of rest) part.editions (editions_of rest)
    part.resolved.resolved (resolved-from_parts rest apart.1) apart.0

module _ (parts : List Part) (list : List Edition) (apart : ArePartsApart parts) (same : HasMembersOf list (records_of parts)) where
  together : IsResolution match join list (editions_of parts)
  together =
      IsResolution-members edition_join_laws edition_match_laws list (records_of parts) (editions_of parts) same
      (resolved-from_parts parts apart)

  -- the merged editions of the parts, and nothing else, are the ordered resolution of all
  pub ordered-from_parts : (all : List Edition) → IsOrderedResolution list all ↔ AreMerged parts all
  ordered-from_parts all = (
    λ r. record {
      same = IsPermutation-from_resolutions edition_join_laws edition_match_laws list (editions_of parts) all together r.resolved;
      ascending = r.ascending;
    },
    λ m. record {
      resolved = IsResolution-permutation edition_join_laws edition_match_laws list (editions_of parts) all m.same together;
      ascending = m.ascending;
    },
  )
