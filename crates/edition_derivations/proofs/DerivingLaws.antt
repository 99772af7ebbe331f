-- Records on their way together: values that are left, values that are done, and the steps so far.
use Rattle.std.proofs.Common.{◌≡◌, false, IsTrue, List, [], ◌∷◌, ◌++◌, sym, subst, inl, inr, arith}
use Rattle.std.specs.Prelude.{◌⊎◌, All, Contains}
use Rattle.std.specs.List.Sorted.{IsPermutation}
use Rattle.std.proofs.lemmas.List.Elements.{Contains-append_left, Contains-push, Contains-push_cases}
use Rattle.std.proofs.lemmas.List.Sorted.{IsPermutation-sym, Contains-permutation}
use Rattle.merge_laws.proofs.Places.{Contains-head, Contains-tail, AllPairs-none}
use Rattle.merge_laws.proofs.Resolving.{IsResolving, resolving_kept, resolving_joined, resolving_onto, IsResolution-from_resolving}
use Rattle.merge_laws.specs.Resolution.{DoNotMatch}
use Rattle.catalogue_editions.specs.Joining.{join}
use Rattle.catalogue_editions.specs.JoinLaws.{edition_join_laws}
use Rattle.catalogue_editions.specs.Matching.{match}
use Rattle.catalogue_editions.specs.MatchLaws.{edition_match_laws}
use Rattle.catalogue_editions.specs.declared.edition.Edition.{Edition}
use Rattle.edition_derivations.specs.declared.step.Step.{Step}
use Rattle.edition_derivations.specs.Steps.{merged, IsKnown, AreSteps, LastHas}
use Rattle.edition_derivations.specs.Deriving.{IsDerived}
use Rattle.edition_derivations.proofs.StepLaws.{known-later, later-push, last-push, last-weaker}

-- all that is left or done is known by the steps, and what the last step merges to is left or done
pub record IsDeriving (records left : List Edition) (steps : List Step) (done : List Edition) : Type 0 where
  pub resolving : IsResolving match join records left done
  pub by : AreSteps records steps
  pub known_left : (e : Edition) → Contains left e → IsKnown records steps e
  pub known_done : (e : Edition) → Contains done e → IsKnown records steps e
  pub last : LastHas (λ s. Contains left (merged s) ⊎ Contains done (merged s)) steps

-- at first all records are left
pub deriving-begun : (records : List Edition) → IsDeriving records records [] []
deriving-begun records = record {
  resolving = resolving_onto edition_join_laws edition_match_laws [] records (AllPairs-none (DoNotMatch match));
  by = tt;
  known_left = λ e c. inl c;
  known_done = λ e c. let (k, kl, is) = c in absurd (omega arith);
  last = tt;
}

-- a value that matches nothing done is done
pub deriving-kept : (records left : List Edition) (steps : List Step) (done : List Edition) (v : Edition)
    → IsDeriving records (left ++ v ∷ []) steps done → All (λ x. match v x ≡ false) done → IsDeriving records left steps (done ++ v ∷ [])
deriving-kept records left steps done v d none = record {
  resolving = resolving_kept edition_join_laws edition_match_laws records left done v d.resolving none;
  by = d.by;
  known_left = λ e c. d.known_left e (Contains-append_left left (v ∷ []) e c);
  known_done = λ e c. elim (Contains-push_cases done v e c) [
    | inl old ↦ d.known_done e old
    | inr same ↦ subst (IsKnown records steps) same (d.known_left v (Contains-push left v))
  ];
  last = last-weaker (λ s. Contains (left ++ v ∷ []) (merged s) ⊎ Contains done (merged s))
      (λ s. Contains left (merged s) ⊎ Contains (done ++ v ∷ []) (merged s))
      (λ s p. elim p [
        | inl c ↦ elim (Contains-push_cases left v (merged s) c) [
          | inl old ↦ inl old
          | inr same ↦ inr (subst (Contains (done ++ v ∷ [])) same (Contains-push done v))
        ]
        | inr c ↦ inr (Contains-append_left done (v ∷ []) (merged s) c)
      ])
      steps d.last;
}

-- a value and a value that is done, which match, leave their merge in their place
pub deriving-joined : (records left : List Edition) (steps : List Step) (done : List Edition) (v u : Edition) (rest : List Edition) (s : Step)
    → s.left ≡ u → s.right ≡ v → IsDeriving records (left ++ v ∷ []) steps done → IsPermutation done (u ∷ rest) → IsTrue (match v u)
    → IsDeriving records (left ++ merged s ∷ []) (steps ++ s ∷ []) rest
deriving-joined records left steps done v u rest s is_left is_right d p m =
    let back = IsPermutation-sym done (u ∷ rest) p in
    let v_known : IsKnown records steps v = d.known_left v (Contains-push left v) in
    let u_known : IsKnown records steps u = d.known_done u (Contains-permutation (u ∷ rest) done u back (Contains-head u rest)) in
    let is_merged : join u v ≡ merged s = sym (λ i. join (is_left i) (is_right i)) in
    record {
      resolving = subst (λ w. IsResolving match join records (left ++ w ∷ []) rest) is_merged
          (resolving_joined edition_join_laws edition_match_laws records left done v u rest d.resolving p m);
      by = later-push records [] steps s d.by (record {
        left = subst (IsKnown records steps) (sym is_left) u_known;
        right = subst (IsKnown records steps) (sym is_right) v_known;
        matching = subst (λ x. IsTrue (match x s.right)) (sym is_left) (subst (λ y. IsTrue (match u y)) (sym is_right) (edition_match_laws.symmetric v u m));
      });
      known_left = λ e c. elim (Contains-push_cases left (merged s) e c) [
        | inl old ↦ known-later records steps (s ∷ []) e (d.known_left e (Contains-append_left left (v ∷ []) e old))
        | inr same ↦ inr (s, Contains-push steps s, sym same)
      ];
      known_done = λ e c. known-later records steps (s ∷ []) e (d.known_done e (Contains-permutation (u ∷ rest) done e back (Contains-tail u rest e c)));
      last = last-push (λ t. Contains (left ++ merged s ∷ []) (merged t) ⊎ Contains rest (merged t)) steps s (inl (Contains-push left (merged s)));
    }

-- at last nothing is left
pub deriving-ended : (records : List Edition) (steps : List Step) (done : List Edition) → IsDeriving records [] steps done → IsDerived records steps done
deriving-ended records steps done d = record {
  by = d.by;
  resolved = IsResolution-from_resolving edition_join_laws edition_match_laws records done d.resolving;
  known = d.known_done;
  last = last-weaker (λ s. Contains [] (merged s) ⊎ Contains done (merged s)) (λ s. Contains done (merged s))
      (λ s p. elim p [ inl (k, kl, e) ↦ absurd (omega arith) | inr c ↦ c ]) steps d.last;
}
