-- The records that match one edition of a resolution resolve to that edition alone.
use Rattle.std.proofs.Common.{◌≡◌, Bool, List, [], ◌∷◌, filter, subst, inl, inr, arith}
use Rattle.std.specs.Prelude.{Contains}
use Rattle.std.proofs.lemmas.List.Sorted.{Contains-permutation}
use Rattle.merge_laws.specs.Resolution.{JoinLaws, MatchLaws, Derives, member, merged, IsDominated, IsResolution, DoNotMatch}
use Rattle.merge_laws.proofs.Places.{Contains-head, Contains-cases, AllPairs-one}
use Rattle.merge_laws.proofs.Resolutions.{IsDominated-trans, IsDominated-left, IsDominated-right, IsResolution-from_apart, IsPermutation-from_resolutions, dominated-from_match}
use Rattle.match_features.proofs.MemberLaws.{member-filter, member-from_filter}
use Rattle.catalogue_editions.specs.JoinLaws.{edition_join_laws}
use Rattle.catalogue_editions.specs.Matching.{match as edition_match}
use Rattle.catalogue_editions.specs.MatchLaws.{edition_match_laws}
use Rattle.catalogue_editions.specs.declared.edition.Edition.{Edition}
use Rattle.edition_derivations.specs.declared.step.Step.{Step}
use Rattle.edition_derivations.specs.Steps.{merged as merges, IsKnown, AreSteps, LastHas, IsDerivation, IsEditionOf}
use Rattle.edition_derivations.specs.Deriving.{IsDerived}
use Rattle.edition_derivations.proofs.StepLaws.{last-weaker, derivation-among}

module _ {A : Type 0} {match : A → A → Bool} {merge : A → A → A} (join : JoinLaws merge) (laws : MatchLaws match merge) where
  -- what derives from a list and is dominated by a value derives from the members that match the value
  derives-within : (list : List A) (whole : A) → (r : A) → Derives match merge list r → IsDominated match merge r whole
      → Derives match merge (filter (λ x. match x whole) list) r
  derives-within list whole r (member c) d = member (member-filter (λ x. match x whole) list r c d.matches)
  derives-within list whole _ (merged {a = a} {b = b} p q m) d =
      merged
      (derives-within list whole a p (IsDominated-trans join laws a (merge a b) whole (IsDominated-left join laws a b) d))
      (derives-within list whole b q (IsDominated-trans join laws b (merge a b) whole (IsDominated-right join laws a b) d))
      m

  -- the members that match a value of the resolution resolve to it alone
  pub one-edition : (list editions : List A) (whole : A) → IsResolution match merge list editions → Contains editions whole
      → IsResolution match merge (filter (λ x. match x whole) list) (whole ∷ [])
  one-edition list editions whole r c =
      IsResolution-from_apart join laws (filter (λ x. match x whole) list) (whole ∷ [])
      (λ e ce. elim (Contains-cases whole [] e ce) [
        | inl same ↦ subst (Derives match merge (filter (λ x. match x whole) list)) same
            (derives-within list whole whole (r.derived whole c) (record { matches = laws.reflexive whole; absorbed = join.idempotent whole }))
        | inr (k, kl, is) ↦ absurd (omega arith)
      ])
      (λ x cx.
      let among = member-from_filter (λ x. match x whole) list x cx in
      (whole, Contains-head whole [], dominated-from_match join laws list editions r x whole among.0 c among.1))
      (AllPairs-one (DoNotMatch match) whole)

  -- so whatever resolves them has that edition and no other
  pub edition-alone : (list editions : List A) (whole : A) (done : List A) → IsResolution match merge list editions → Contains editions whole
      → IsResolution match merge (filter (λ x. match x whole) list) done → (x : A) → Contains done x → whole ≡ x
  edition-alone list editions whole done r c s x cx =
      let same = IsPermutation-from_resolutions join laws (filter (λ x. match x whole) list) done (whole ∷ []) s (one-edition list editions whole r c) in
      elim (Contains-cases whole [] x (Contains-permutation done (whole ∷ []) x same cx)) [
        | inl is ↦ is
        | inr (k, kl, e) ↦ absurd (omega arith)
      ]

  pub edition-there : (list editions : List A) (whole : A) (done : List A) → IsResolution match merge list editions → Contains editions whole
      → IsResolution match merge (filter (λ x. match x whole) list) done → Contains done whole
  edition-there list editions whole done r c s =
      let same = IsPermutation-from_resolutions join laws (filter (λ x. match x whole) list) (whole ∷ []) done (one-edition list editions whole r c) s in
      Contains-permutation (whole ∷ []) done whole same (Contains-head whole [])

-- what the last step merges to is the edition
last-whole : (e : Edition) (done : List Edition) → ((x : Edition) → Contains done x → e ≡ x) → (steps : List Step)
    → LastHas (λ s. Contains done (merges s)) steps → LastHas (λ s. e ≡ merges s) steps
last-whole e done alone steps last = last-weaker (λ s. Contains done (merges s)) (λ s. e ≡ merges s) (λ s c. alone (merges s) c) steps last

known-none : (records : List Edition) (e : Edition) → IsKnown records [] e → Contains records e
known-none records e (inl c) = c
known-none records e (inr (s, (k, kl, is), same)) = absurd (omega arith)

ended : (members : List Edition) (e : Edition) (done : List Edition) → ((x : Edition) → Contains done x → e ≡ x) → (steps : List Step)
    → AreSteps members steps → LastHas (λ s. Contains done (merges s)) steps → IsKnown members steps e → IsDerivation members steps e
ended members e done alone [] by last known = record { by = by; ends = known-none members e known }
ended members e done alone (s ∷ rest) by last known = record { by = by; ends = last-whole e done alone (s ∷ rest) last }

-- the steps by which the members of an edition come together are a derivation of it
pub derivation-of : (records : List Edition) (e : Edition) (steps : List Step) (done : List Edition) → IsEditionOf records e
    → IsDerived (filter (λ r. edition_match r e) records) steps done → IsDerivation records steps e
derivation-of records e steps done is d =
    let members = filter (λ r. edition_match r e) records in
    let alone = edition-alone edition_join_laws edition_match_laws records is.editions e done is.resolved is.among d.resolved in
    let there = edition-there edition_join_laws edition_match_laws records is.editions e done is.resolved is.among d.resolved in
    derivation-among members records (λ x c. (member-from_filter (λ r. edition_match r e) records x c).0) steps e
    (ended members e done alone steps d.by d.last (d.known e there))
