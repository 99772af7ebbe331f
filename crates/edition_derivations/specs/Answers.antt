-- What is told of two records.
use Rattle.std.specs.Prelude.{◌≡◌, ◌⊎◌, false, IsTrue, List, All, Contains, Option, Some, None}
use Rattle.union_base.specs.declared.record_id.RecordId.{RecordId}
use Rattle.catalogue_editions.specs.Matching.{match}
use Rattle.catalogue_editions.specs.declared.edition.Edition.{Edition}
use Rattle.edition_derivations.specs.declared.asking.Answer.{Answer}
use Rattle.edition_derivations.specs.declared.asking.Answer.TheVariants.{Same, Apart}
use Rattle.edition_derivations.specs.Steps.{holds}
use Rattle.edition_derivations.specs.Shortened.{Brings}

-- one of the editions has both
pub record AreOf (editions : List Edition) (one other : RecordId) (e : Edition) : Type 0 where
  pub among : Contains editions e
  pub has_one : IsTrue (holds e one)
  pub has_other : IsTrue (holds e other)

-- two of the editions, which do not match, have one each, and no edition has both
pub record AreApart (editions : List Edition) (one other : RecordId) (x y : Edition) : Type 0 where
  pub among_one : Contains editions x
  pub among_other : Contains editions y
  pub has_one : IsTrue (holds x one)
  pub has_other : IsTrue (holds y other)
  pub unlike : match x y ≡ false
  pub none : (e : Edition) → Contains editions e → IsTrue (holds e one) → IsTrue (holds e other) → ⊥

-- what is told of two of the records, which resolve to the editions
abbrev pub Answers : List Edition → List Edition → RecordId → RecordId → Option Answer → Type 0
Answers records editions one other (Some (Same e d)) =
    AreOf editions one other e × Brings records one other d.steps.items d.edition
Answers records editions one other (Some (Apart x y)) = AreApart editions one other x y
Answers records editions one other None =
    All (λ e. holds e one ≡ false) editions ⊎ All (λ e. holds e other ≡ false) editions
