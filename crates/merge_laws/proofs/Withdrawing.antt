-- What a resolution becomes when one value is withdrawn from the list.
use Rattle.std.proofs.Common.{Bool, IsTrue, List, ◌∷◌, ◌++◌, sym, subst, inl, inr}
use Rattle.std.specs.Prelude.{Contains}
use Rattle.std.proofs.lemmas.List.Elements.{Contains-append_left, Contains-append_right, Contains-append_cases}
use Rattle.std.proofs.lemmas.List.Sorted.{IsPermutation-sym, Contains-permutation}
use Rattle.merge_laws.specs.Resolution.{JoinLaws, MatchLaws, Derives, member, merged, IsDominated, IsResolution, DoNotMatch, AreApart}
use Rattle.merge_laws.specs.Withdrawal.{IsWithdrawn}
use Rattle.merge_laws.proofs.Places.{Contains-tail, Contains-cases, AllPairs-permutation, AllPairs-rest, AllPairs-first, AllPairs-append}
use Rattle.merge_laws.proofs.Resolutions.{IsDominated-refl, IsDominated-trans, IsDominated-left, IsDominated-right, IsDominated-derived, matches-above, Derives-through, IsResolution-from_apart, apart-from_resolution}

module _ {A : Type 0} {match : A → A → Bool} {merge : A → A → A} (join : JoinLaws merge) (laws : MatchLaws match merge) {list resolution : List A} {gone : A} {rest : List A} {block : A} {others kept parts : List A} (w : IsWithdrawn match merge list resolution gone rest block others kept parts) where
  -- the block and the other blocks do not match one another
  apart_blocks : AreApart match (block ∷ others)
  apart_blocks =
      AllPairs-permutation (DoNotMatch match) (λ x y h. (h.1, h.0)) resolution (block ∷ others) w.in_resolution (apart-from_resolution join laws list resolution w.resolved)

  block-from_match : (e : A) → Contains others e → IsTrue (match block e) → ⊥
  block-from_match e c m = (AllPairs-first (DoNotMatch match) block others apart_blocks e c).0 m

  in_list-from_rest : (x : A) → Contains rest x → Contains list x
  in_list-from_rest x c = Contains-permutation (gone ∷ rest) list x (IsPermutation-sym list (gone ∷ rest) w.in_list) (Contains-tail gone rest x c)

  -- what derives from the list and stands below another block derives without the withdrawn value
  Derives-rest : (e : A) → Contains others e → (r : A) → Derives match merge list r → IsDominated match merge r e → Derives match merge rest r
  Derives-rest e c r (member cr) below =
      elim (Contains-cases gone rest r (Contains-permutation list (gone ∷ rest) r w.in_list cr)) [
        | inl same ↦ absurd (block-from_match e c (matches-above join laws r r block e (laws.reflexive r) (subst (λ x. IsDominated match merge x block) same w.dominated) below))
        | inr there ↦ member there
      ]
  Derives-rest e c _ (merged {a = a} {b = b} p q m) below =
      merged
      (Derives-rest e c a p (IsDominated-trans join laws a (merge a b) e (IsDominated-left join laws a b) below))
      (Derives-rest e c b q (IsDominated-trans join laws b (merge a b) e (IsDominated-right join laws a b) below))
      m

  -- the block dominates each of the parts
  part-below : (q : A) → Contains parts q → IsDominated match merge q block
  part-below q c = IsDominated-derived join laws kept block (λ x k. ((w.keeps x).0 k).1) q (w.resolved_parts.derived q c)

  -- no part matches another block
  pub part-from_match : (q e : A) → Contains parts q → Contains others e → IsTrue (match q e) → ⊥
  part-from_match q e cq ce m = block-from_match e ce (matches-above join laws q e block e m (part-below q cq) (IsDominated-refl join laws e))

  -- the other blocks and the parts are the resolution of the rest
  pub IsResolution-withdrawn : IsResolution match merge rest (others ++ parts)
  IsResolution-withdrawn =
      IsResolution-from_apart join laws rest (others ++ parts)
      (λ e c. elim (Contains-append_cases others parts e c) [
        | inl co ↦ Derives-rest e co e
            (w.resolved.derived e (Contains-permutation (block ∷ others) resolution e (IsPermutation-sym resolution (block ∷ others) w.in_resolution) (Contains-tail block others e co)))
            (IsDominated-refl join laws e)
        | inr cp ↦ Derives-through join laws kept rest (λ x k. member ((w.keeps x).0 k).0) e (w.resolved_parts.derived e cp)
      ])
      (λ x c.
      let (s, cs, ds) = w.resolved.covered x (member (in_list-from_rest x c)) in
      elim (Contains-cases block others s (Contains-permutation resolution (block ∷ others) s w.in_resolution cs)) [
        | inl same ↦
            (let k : Contains kept x = (w.keeps x).1 (c, subst (IsDominated match merge x) (sym same) ds) in
            let (p, cp, dp) = w.resolved_parts.covered x (member k) in
            (p, Contains-append_right others parts p cp, dp))
        | inr co ↦ (s, Contains-append_left others parts s co, ds)
      ])
      (AllPairs-append (DoNotMatch match) others parts
      (AllPairs-rest (DoNotMatch match) block others apart_blocks)
      (apart-from_resolution join laws kept parts w.resolved_parts)
      (λ e q ce cq. (λ m. part-from_match q e cq ce (laws.symmetric e q m), λ m. part-from_match q e cq ce m)))
