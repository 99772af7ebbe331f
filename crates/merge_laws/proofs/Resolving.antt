-- A resolver on its way: values that are left, and values that are done. Each step of it keeps what the state says.
use Rattle.std.proofs.Common.{◌≡◌, Bool, false, IsTrue, List, [], ◌∷◌, ◌++◌, sym, subst, inl, inr, arith}
use Rattle.std.specs.Prelude.{◌⊎◌, All, Contains}
use Rattle.std.specs.List.Sorted.{IsPermutation}
use Rattle.std.proofs.lemmas.List.Elements.{All-contains, Contains-append_left, Contains-append_right, Contains-append_cases, Contains-push, Contains-push_cases}
use Rattle.std.proofs.lemmas.List.Sorted.{IsPermutation-sym, Contains-permutation}
use Rattle.merge_laws.specs.Resolution.{JoinLaws, MatchLaws, Derives, member, merged, IsDominated, IsCovered, IsResolution, DoNotMatch, AreApart}
use Rattle.merge_laws.proofs.Places.{Contains-head, Contains-tail, Contains-cases, AllPairs-permutation, AllPairs-rest, AllPairs-one, AllPairs-append}
use Rattle.merge_laws.proofs.Resolutions.{IsDominated-refl, IsDominated-trans, IsDominated-left, IsDominated-right, Derives-through, IsResolution-from_apart, apart-from_resolution}

-- All that is left or done derives from the list, something left or done dominates each member of the list, and no two
-- values that are done match.
pub record IsResolving {A : Type 0} (match : A → A → Bool) (merge : A → A → A) (list left done : List A) : Type 0 where
  pub left_derives : (r : A) → Contains left r → Derives match merge list r
  pub done_derives : (r : A) → Contains done r → Derives match merge list r
  pub covered : (r : A) → Contains list r → IsCovered match merge left r ⊎ IsCovered match merge done r
  pub apart : AreApart match done

module _ {A : Type 0} {match : A → A → Bool} {merge : A → A → A} (join : JoinLaws merge) (laws : MatchLaws match merge) where
  -- a value that matches nothing done is done
  pub resolving_kept : (list left done : List A) (v : A) → IsResolving match merge list (left ++ v ∷ []) done → All (λ x. match v x ≡ false) done → IsResolving match merge list left (done ++ v ∷ [])
  resolving_kept list left done v s none =
      let never : (x : A) → Contains done x → IsTrue (match v x) → ⊥ = λ x c m. let no : match v x ≡ false = All-contains (λ x. match v x ≡ false) done x none c in cc in
      record {
        left_derives = λ r c. s.left_derives r (Contains-append_left left (v ∷ []) r c);
        done_derives = λ r c. elim (Contains-push_cases done v r c) [
          | inl d ↦ s.done_derives r d
          | inr same ↦ subst (Derives match merge list) same (s.left_derives v (Contains-push left v))
        ];
        covered = λ r c. elim (s.covered r c) [
          | inl (x, cx, dx) ↦ elim (Contains-push_cases left v x cx) [
            | inl l ↦ inl (x, l, dx)
            | inr same ↦ inr (v, Contains-push done v, subst (IsDominated match merge r) (sym same) dx)
          ]
          | inr (x, cx, dx) ↦ inr (x, Contains-append_left done (v ∷ []) x cx, dx)
        ];
        apart = AllPairs-append (DoNotMatch match) done (v ∷ []) s.apart (AllPairs-one (DoNotMatch match) v)
            (λ x y cx cy. elim (Contains-cases v [] y cy) as (λ _. DoNotMatch match x y) [
              | inl same ↦ subst (DoNotMatch match x) same (λ m. never x cx (laws.symmetric x v m), λ m. never x cx m)
              | inr (k, kl, e) ↦ absurd (omega arith)
            ]);
      }

  -- a value and a value that is done, which match, leave their merge in their place
  pub resolving_joined : (list left done : List A) (v u : A) (rest : List A) → IsResolving match merge list (left ++ v ∷ []) done → IsPermutation done (u ∷ rest) → IsTrue (match v u) → IsResolving match merge list (left ++ merge u v ∷ []) rest
  resolving_joined list left done v u rest s p m =
      let back = IsPermutation-sym done (u ∷ rest) p in
      let w = merge u v in
      record {
        left_derives = λ r c. elim (Contains-push_cases left w r c) [
          | inl l ↦ s.left_derives r (Contains-append_left left (v ∷ []) r l)
          | inr same ↦ subst (Derives match merge list) same
              (merged (s.done_derives u (Contains-permutation (u ∷ rest) done u back (Contains-head u rest))) (s.left_derives v (Contains-push left v)) (laws.symmetric v u m))
        ];
        done_derives = λ r c. s.done_derives r (Contains-permutation (u ∷ rest) done r back (Contains-tail u rest r c));
        covered = λ r c. elim (s.covered r c) [
          | inl (x, cx, dx) ↦ elim (Contains-push_cases left v x cx) [
            | inl l ↦ inl (x, Contains-append_left left (w ∷ []) x l, dx)
            | inr same ↦ inl (w, Contains-push left w, IsDominated-trans join laws r v w (subst (IsDominated match merge r) (sym same) dx) (IsDominated-right join laws u v))
          ]
          | inr (x, cx, dx) ↦ elim (Contains-cases u rest x (Contains-permutation done (u ∷ rest) x p cx)) [
            | inl same ↦ inl (w, Contains-push left w, IsDominated-trans join laws r u w (subst (IsDominated match merge r) (sym same) dx) (IsDominated-left join laws u v))
            | inr d ↦ inr (x, d, dx)
          ]
        ];
        apart = AllPairs-rest (DoNotMatch match) u rest
            (AllPairs-permutation (DoNotMatch match) (λ x y h. (h.1, h.0)) done (u ∷ rest) p s.apart);
      }

  -- where nothing is left, what is done is the resolution
  pub IsResolution-from_resolving : (list done : List A) → IsResolving match merge list [] done → IsResolution match merge list done
  IsResolution-from_resolving list done s =
      IsResolution-from_apart join laws list done s.done_derives
      (λ x c. elim (s.covered x c) [ inl (y, (k, kl, e), d) ↦ absurd (omega arith) | inr covers ↦ covers ])
      s.apart

  -- to resolve values that are apart with more values, begin with the former as done and the latter as left
  pub resolving_onto : (list more : List A) → AreApart match list → IsResolving match merge (list ++ more) more list
  resolving_onto list more apart = record {
    left_derives = λ r c. member (Contains-append_right list more r c);
    done_derives = λ r c. member (Contains-append_left list more r c);
    covered = λ r c. elim (Contains-append_cases list more r c) [
      | inl d ↦ inr (r, d, IsDominated-refl join laws r)
      | inr l ↦ inl (r, l, IsDominated-refl join laws r)
    ];
    apart = apart;
  }

  -- so it is to insert one value
  pub resolving_inserted : (list : List A) (v : A) → AreApart match list → IsResolving match merge (list ++ v ∷ []) (v ∷ []) list
  resolving_inserted list v = resolving_onto list (v ∷ [])

  -- to resolve two lists together, begin with the resolution of the one as done and that of the other as left
  pub resolving_halves : (I J E F : List A) → IsResolution match merge I E → IsResolution match merge J F → IsResolving match merge (I ++ J) F E
  resolving_halves I J E F p q = record {
    left_derives = λ r c. Derives-through join laws J (I ++ J) (λ x cx. member (Contains-append_right I J x cx)) r (q.derived r c);
    done_derives = λ r c. Derives-through join laws I (I ++ J) (λ x cx. member (Contains-append_left I J x cx)) r (p.derived r c);
    covered = λ r c. elim (Contains-append_cases I J r c) [
      | inl ci ↦ inr (p.covered r (member ci))
      | inr cj ↦ inl (q.covered r (member cj))
    ];
    apart = apart-from_resolution join laws I E p;
  }
