-- The value that is found in two lists stands in both.
use Rattle.std.proofs.Common.{◌≡◌, Bool, true, false, ◌||◌, cond, List, [], ◌∷◌, refl, sym, ap, ◌∙◌, inr}
use Rattle.std.specs.Prelude.{find, Contains, Some, is_some}
use Rattle.std.specs.List.{list_any}
use Rattle.std.specs.declared.cmp.Ordering.{Ordering}
use Rattle.std.specs.Cmp.{IsTotalOrder}
use Rattle.std.specs.FinMap.{IsAntisymmetric}
use Rattle.merge_laws.specs.Resolution.{Derives, member}
use Rattle.merge_laws.proofs.Places.{Contains-head, Contains-tail}
use Rattle.union_base.specs.SortedLists.{has}
use Rattle.field_merge.proofs.Members.{member-find}
use Rattle.match_features.proofs.MemberLaws.{member-from_has}
use Rattle.catalogue_editions.specs.Joining.{join}
use Rattle.catalogue_editions.specs.Matching.{match}
use Rattle.catalogue_editions.specs.declared.edition.Edition.{Edition}
use Rattle.edition_derivations.specs.declared.step.Step.{Step}
use Rattle.edition_derivations.specs.Common.{first_common}
use Rattle.edition_derivations.specs.Steps.{merged, LastHas, IsDerivation}
use Rattle.edition_derivations.proofs.StepLaws.{steps-derive}

same_Some : {K : Type 0} (x y : K) → Some x ≡ Some y → x ≡ y
same_Some x y e = cc

module _ {K : Type 0} (p : K → Bool) where
  pub found-passes : (xs : List K) (v : K) → find p xs ≡ Some v → p v ≡ true
  found-passes [] v is = cc
  found-passes (x ∷ xs) v is =
      elim (p x) as (λ b. p x ≡ b → cond b (Some x) (find p xs) ≡ Some v → p v ≡ true) [
        | true ↦ λ passes same. ap p (sym (same_Some x v same)) ∙ passes
        | false ↦ λ fails later. found-passes xs v later
      ] refl is

  pub found-any : (xs : List K) → is_some (find p xs) ≡ list_any p xs
  found-any [] = refl
  found-any (x ∷ xs) = elim (p x) as (λ b. is_some (cond b (Some x) (find p xs)) ≡ (b || list_any p xs)) [
    | true ↦ refl
    | false ↦ found-any xs
  ]

module _ {K : Type 0} {R : K → K → Ordering} (o : IsTotalOrder R) (ties : IsAntisymmetric R) where
  pub common-of_one : (xs ys : List K) (v : K) → first_common R xs ys ≡ Some v → Contains xs v
  common-of_one xs ys v is = member-find (has R ys) xs v is

  pub common-of_other : (xs ys : List K) (v : K) → first_common R xs ys ≡ Some v → Contains ys v
  common-of_other xs ys v is = member-from_has o ties ys v (found-passes (has R ys) xs v is)

-- the last of some steps is one of them
last-there : (P : Step → Type 0) (s : Step) (rest : List Step) → LastHas P (s ∷ rest) → (t : Step) × Contains (s ∷ rest) t × P t
last-there P s [] p = (s, Contains-head s [], p)
last-there P s (t ∷ rest) p = let found = last-there P t rest p in (found.0, Contains-tail s (t ∷ rest) found.0 found.1, found.2)

pub derivation-derives : (records : List Edition) (steps : List Step) (e : Edition) → IsDerivation records steps e → Derives match join records e
derivation-derives records [] e d = member d.ends
derivation-derives records (s ∷ rest) e d =
    let found = last-there (λ last. e ≡ merged last) s rest d.ends in
    steps-derive records (s ∷ rest) d.by e (inr found)
