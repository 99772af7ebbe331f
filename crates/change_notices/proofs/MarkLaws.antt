-- Marks on the held editions that are closed.
use Rattle.std.proofs.Common.{◌≡◌, ◌≢◌, ℕ, ◌+◌, ◌<◌, ◌≤◌, Bool, true, false, IsTrue, List, [], ◌∷◌, ◌++◌, length, get_or, set, take, Contains, refl, sym, ap, subst, ◌∙◌, inl, inr, arith}
use Rattle.std.specs.Prelude.{◌↔◌, ◌⊎◌, Option, Some, slice_get}
use Rattle.std.specs.List.Sorted.{IsNonDecreasingBy, IsPartitionPoint}
use Rattle.std.specs.declared.cmp.Ordering.{Ordering}
use Rattle.std.specs.declared.cmp.Ordering.TheVariants.{Less, Equal, Greater}
use Rattle.std.specs.Ordering.{ordering_index}
use Rattle.std.proofs.Math.Decide.{dec_lt}
use Rattle.std.proofs.lemmas.List.{get_or_default, get_or-set_other, get_or-set_same, length-set, take_more, take_all}
use Rattle.std.proofs.lemmas.List.Elements.{Contains-append_left, Contains-append_right, Contains-append_cases}
use Rattle.std.proofs.lemmas.Option.{get_or_from_slice_get, slice_get_within}
use Rattle.union_base.specs.IdLaws.{ids_apart}
use Rattle.union_base.specs.SortedLists.{is_ascending}
use Rattle.merge_laws.proofs.Places.{Contains-head, Contains-cases}
use Rattle.union_base.specs.RecordIds.{id_cmp}
use Rattle.field_merge.specs.KeptLaws.{id_total}
use Rattle.catalogue_editions.specs.Ids.{least, edition_cmp}
use Rattle.catalogue_editions.specs.declared.edition.Edition.{Edition}
use Rattle.change_notices.specs.Followers.{IsMissing, IsNowhere, IsFirst}
use Rattle.change_notices.specs.Marks.{AreMarked}
use Rattle.change_notices.proofs.FollowerLaws.{ascends, own-tie, one-place, at-member}

-- ---- an edition is looked up by its least contributor

index-below : (r s : Ordering) → (s ≡ Less → r ≡ Less) → (s ≡ Equal → r ≡ Less) → ordering_index r ≤ ordering_index s
index-below r Less f g = let is : r ≡ Less = f refl in rw is (omega arith)
index-below r Equal f g = let is : r ≡ Less = g refl in rw is (omega arith)
index-below Less Greater f g = omega arith
index-below Equal Greater f g = omega arith
index-below Greater Greater f g = omega arith

module _ (xs : List Edition) (up : IsTrue (is_ascending edition_cmp xs)) (e : Edition) where
  rising : IsNonDecreasingBy (λ y. ordering_index (edition_cmp y e)) xs
  rising i j d ij jl =
      elim (dec_lt i j) [
        | yes h ↦ (let x = get_or xs i d in
            let y = get_or xs j d in
            let below : edition_cmp x y ≡ Less = ascends xs up i j d h jl in
            index-below (edition_cmp x e) (edition_cmp y e) (λ less. id_total.trans (least x) (least y) (least e) below less)
            (λ tie. ap (id_cmp (least x)) (sym (ids_apart (least y) (least e) tie)) ∙ below))
        | no h ↦ (let same : i ≡ j = omega arith in rw same (omega arith))
      ]

  -- the one that ties with the edition is it, or it is not among them
  pub tied : (i : ℕ) (d : Edition) → i < length xs → edition_cmp (get_or xs i d) e ≡ Equal → Contains xs e → get_or xs i d ≡ e
  tied i d il tie (k, kl, is) =
      let at : get_or xs i d ≡ get_or xs i e = get_or_default xs i d e il in
      let same : least (get_or xs i e) ≡ least (get_or xs k e) = ap least (sym at) ∙ ids_apart (least (get_or xs i d)) (least e) tie ∙ ap least (sym is) in
      let place : i ≡ k = one-place xs up i k e il kl same in
      at ∙ ap (λ n. get_or xs n e) place ∙ is

  -- none ties with it, so it is not among them
  pub untied : (i : ℕ) → (IsNonDecreasingBy (λ y. ordering_index (edition_cmp y e)) xs
      → IsPartitionPoint (λ y. edition_cmp y e ≡ Less) (λ y. edition_cmp y e ≡ Greater) xs i) → Contains xs e → ⊥
  untied i parts (k, kl, is) =
      let tie : edition_cmp (get_or xs k e) e ≡ Equal = ap (λ x. edition_cmp x e) is ∙ own-tie e in
      elim (dec_lt k i) [
        | yes h ↦ (let less : edition_cmp (get_or xs k e) e ≡ Less = (parts rising).0 k e (omega arith) h in
            let bad : Less ≡ Equal = sym less ∙ tie in cc)
        | no h ↦ (let above : edition_cmp (get_or xs k e) e ≡ Greater = (parts rising).1 k e (omega arith) kl in
            let bad : Greater ≡ Equal = sym above ∙ tie in cc)
      ]

-- ---- marks

-- the closed editions so far are marked, and none of them is missing
pub record Marks (held closed : List Edition) (done : ℕ) (marks : List Bool) : Type 0 where
  pub are : AreMarked held (take done closed) marks
  pub none : (k : ℕ) → k < done → IsMissing held closed k → ⊥

module _ (held closed : List Edition) (up : IsTrue (is_ascending edition_cmp held)) where
  pub marks-none : (marks : List Bool) → length marks ≡ length held → ((k : ℕ) → get_or marks k false ≡ false) → Marks held closed 0 marks
  marks-none marks long none = record {
    are = record {
      long = long;
      each = λ place e is. (λ h. (let clash : false ≡ true = sym (none place) ∙ h in cc), λ (k, kl, is). absurd (empty k kl));
    };
    none = λ k kl missing. omega arith;
  }
    where
      empty : (k : ℕ) → k < length (take 0 closed) → ⊥
      empty k kl = omega arith

  module _ (done : ℕ) (marks : List Bool) (so_far : Marks held closed done marks) (e : Edition) (here : slice_get closed done ≡ Some e) where
    within : done < length closed
    within = slice_get_within closed done e here

    more : take (done + 1) closed ≡ take done closed ++ e ∷ []
    more = take_more closed done e within ∙ ap (λ (x : Edition). take done closed ++ x ∷ []) (get_or_from_slice_get closed done e e here)

    pub marks-more : (place : ℕ) → slice_get held place ≡ Some e → get_or marks place false ≡ false → Marks held closed (done + 1) (set marks place true)
    marks-more place stands free = record {
      are = record {
        long = length-set marks place true ∙ so_far.are.long;
        each = λ q x at. subst (λ seen. IsTrue (get_or (set marks place true) q false) ↔ Contains seen x) (sym more) (each q x at);
      };
      none = λ k kl missing. elim (dec_lt k done) [
        | yes h ↦ so_far.none k h missing
        | no h ↦ (let last : k ≡ done = omega arith in
            let same : ◌≡◌ {A = Option Edition} (Some missing.edition) (Some e) = sym missing.stands ∙ ap (slice_get closed) last ∙ here in
            let one : missing.edition ≡ e = cc in
            elim missing.lacks [
              | inl out ↦ out (subst (Contains held) (sym one) (at-member held place e stands))
              | inr earlier ↦ (let marked : IsTrue (get_or marks place false) = (so_far.are.each place e stands).1 (subst (λ x. Contains (take done closed) x) one (subst (λ n. Contains (take n closed) missing.edition) last earlier)) in
                  let clash : false ≡ true = sym free ∙ marked in cc)
            ])
      ];
    }
      where
        below : place < length marks
        below = omega (arith, slice_get_within held place e stands, so_far.are.long)

        each : (q : ℕ) (x : Edition) → slice_get held q ≡ Some x → IsTrue (get_or (set marks place true) q false) ↔ Contains (take done closed ++ e ∷ []) x
        each q x at =
            elim (same-place q) [
              | inl is ↦ (let same : ◌≡◌ {A = Option Edition} (Some x) (Some e) = sym at ∙ ap (slice_get held) is ∙ stands in
                  let one : e ≡ x = cc in (
                    λ h. subst (Contains (take done closed ++ e ∷ [])) one (Contains-append_right (take done closed) (e ∷ []) e (Contains-head e [])),
                    λ c. ap (λ n. get_or (set marks place true) n false) is ∙ get_or-set_same marks place true false below,
                  ))
              | inr ne ↦ (let stays : get_or (set marks place true) q false ≡ get_or marks q false = get_or-set_other marks place q true false ne in (
                λ h. Contains-append_left (take done closed) (e ∷ []) x ((so_far.are.each q x at).0 (sym stays ∙ h)),
                λ c. elim (Contains-append_cases (take done closed) (e ∷ []) x c) [
                  | inl before ↦ stays ∙ (so_far.are.each q x at).1 before
                  | inr last ↦ elim (Contains-cases e [] x last) [
                    | inl same ↦ absurd (ne (one-place held up q place x (slice_get_within held q x at) (slice_get_within held place e stands)
                        (ap least (get_or_from_slice_get held q x x at ∙ sym same ∙ sym (get_or_from_slice_get held place e x stands)))))
                    | inr (k, kl, is) ↦ absurd (omega arith)
                  ]
                ],
              ))
            ]
          where
            same-place : (q : ℕ) → (q ≡ place) ⊎ (q ≢ place)
            same-place q = elim (dec_lt q place) [ yes h ↦ inr (λ e. omega arith) | no h ↦ elim (dec_lt place q) [ yes k ↦ inr (λ e. omega arith) | no k ↦ inl (omega arith) ] ]

    -- it is not held, or it is marked: the least place that is missing
    pub marks-stop : ((Contains held e → ⊥) ⊎ ((place : ℕ) × (slice_get held place ≡ Some e) × (get_or marks place false ≡ true))) → IsFirst (IsMissing held closed) done
    marks-stop why = record {
      here = record {
        edition = e;
        stands = here;
        lacks = elim why [ inl out ↦ inl out | inr (place, at, marked) ↦ inr ((so_far.are.each place e at).0 marked) ];
      };
      before = so_far.none;
    }

  pub marks-all : (marks : List Bool) → Marks held closed (length closed) marks → IsNowhere (IsMissing held closed) × AreMarked held closed marks
  marks-all marks all = (
    λ k missing. all.none k (slice_get_within closed k missing.edition missing.stands) missing,
    subst (λ seen. AreMarked held seen marks) (take_all (length closed) closed (omega arith)) all.are,
  )
