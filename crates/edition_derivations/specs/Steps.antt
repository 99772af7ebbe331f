-- The merges by which the records of an edition come together.
use Rattle.std.specs.Prelude.{⊤, ◌≡◌, ◌⊎◌, Bool, IsTrue, List, [], ◌∷◌, ◌++◌, Contains}
use Rattle.union_base.specs.declared.record_id.RecordId.{RecordId}
use Rattle.union_base.specs.SortedLists.{has}
use Rattle.union_base.specs.RecordIds.{id_cmp}
use Rattle.merge_laws.specs.Resolution.{IsResolution}
use Rattle.catalogue_editions.specs.Joining.{join}
use Rattle.catalogue_editions.specs.Matching.{match}
use Rattle.catalogue_editions.specs.declared.edition.Edition.{Edition}
use Rattle.edition_derivations.specs.declared.step.Step.{Step}

-- what a step merges to
abbrev pub merged : Step → Edition
merged s = join s.left s.right

-- the value is one of the records, or what one of the steps merges to
abbrev pub IsKnown : List Edition → List Step → Edition → Type 0
IsKnown records steps e = Contains records e ⊎ ((s : Step) × Contains steps s × (e ≡ merged s))

-- the two sides of a step are known by the steps before it, and match
pub record IsStep (records : List Edition) (earlier : List Step) (s : Step) : Type 0 where
  pub left : IsKnown records earlier s.left
  pub right : IsKnown records earlier s.right
  pub matching : IsTrue (match s.left s.right)

-- the later steps follow the earlier ones, each a step by those before it
abbrev pub AreLater : List Edition → List Step → List Step → Type 0
AreLater records earlier [] = ⊤
AreLater records earlier (s ∷ later) = IsStep records earlier s × AreLater records (earlier ++ s ∷ []) later

-- each is a step by those before it
abbrev pub AreSteps : List Edition → List Step → Type 0
AreSteps records steps = AreLater records [] steps

-- the last of the steps has the property, where there is one
abbrev pub LastHas : (Step → Type 0) → List Step → Type 0
LastHas P [] = ⊤
LastHas P (s ∷ []) = P s
LastHas P (s ∷ t ∷ rest) = LastHas P (t ∷ rest)

-- the edition is what the last of the steps merges to; where there is none, it is a record
abbrev pub EndsWith : List Edition → List Step → Edition → Type 0
EndsWith records [] e = Contains records e
EndsWith records (s ∷ rest) e = LastHas (λ last. e ≡ merged last) (s ∷ rest)

-- the edition derives from the records by these steps
pub record IsDerivation (records : List Edition) (steps : List Step) (e : Edition) : Type 0 where
  pub by : AreSteps records steps
  pub ends : EndsWith records steps e

-- the edition is one of those to which the records resolve
pub record IsEditionOf (records : List Edition) (e : Edition) : Type 0 where
  pub editions : List Edition
  pub resolved : IsResolution match join records editions
  pub among : Contains editions e

-- whether the record of this id is one of the edition's
abbrev pub holds : Edition → RecordId → Bool
holds e id = has id_cmp e.content.contributors id
