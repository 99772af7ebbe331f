-- An edition is looked up by its least contributor among editions in order of theirs.
use Rattle.std.proofs.Common.{◌≡◌, Bor, ℕ, zero, suc, ◌+◌, ◌<◌, ◌≤◌, Bool, true, false, IsTrue, List, [], ◌∷◌, ◌++◌, length, get_or, map, Contains, refl, sym, ap, subst, ◌∙◌, inl, inr, arith}
use Rattle.std.specs.Prelude.{◌↔◌, ◌⊎◌}
use Rattle.std.specs.List.{list_all}
use Rattle.std.specs.List.Sorted.{IsNonDecreasingBy, IsPartitionPoint}
use Rattle.std.specs.declared.cmp.Ordering.{Ordering}
use Rattle.std.specs.declared.cmp.Ordering.TheVariants.{Less, Equal, Greater}
use Rattle.std.specs.Ordering.{is_lt, ordering_reverse, ordering_index}
use Rattle.std.proofs.lemmas.List.{get_or-map, length-map}
use Rattle.std.proofs.Math.Decide.{dec_lt}
use Rattle.union_base.specs.Both.{both_true, true_both}
use Rattle.union_base.specs.SortedLists.{is_ascending}
use Rattle.union_base.specs.IdLaws.{ids_apart}
use Rattle.merge_laws.proofs.Places.{Contains-head, Contains-tail, Contains-cases}
use Rattle.union_base.specs.RecordIds.{id_cmp}
use Rattle.field_merge.specs.KeptLaws.{id_total}
use Rattle.catalogue_editions.specs.Ids.{least, edition_cmp}
use Rattle.catalogue_editions.specs.declared.edition.Edition.{Edition}

lt-is : (r : Ordering) → is_lt r ≡ true → r ≡ Less
lt-is Less h = refl
lt-is Equal h = cc
lt-is Greater h = cc

all-at : {A : Type 0} (p : A → Bool) (xs : List A) → list_all p xs ≡ true → (k : ℕ) (d : A) → k < length xs → p (get_or xs k d) ≡ true
all-at p [] h k d kl = absurd (omega arith)
all-at p (x ∷ xs) h zero d kl = (both_true (p x) (list_all p xs) h).0
all-at p (x ∷ xs) h (suc k) d kl = all-at p xs (both_true (p x) (list_all p xs) h).1 k d (omega arith)

-- an earlier edition is below a later one
pub ascends : (xs : List Edition) → IsTrue (is_ascending edition_cmp xs) → (i j : ℕ) (d : Edition) → i < j → j < length xs → edition_cmp (get_or xs i d) (get_or xs j d) ≡ Less
ascends [] up i j d ij jl = absurd (omega arith)
ascends (x ∷ xs) up zero zero d ij jl = absurd (omega arith)
ascends (x ∷ xs) up zero (suc j) d ij jl =
    lt-is (edition_cmp x (get_or xs j d)) (all-at (λ y. is_lt (edition_cmp x y)) xs (both_true (list_all (λ y. is_lt (edition_cmp x y)) xs) (is_ascending edition_cmp xs) up).0 j d (omega arith))
ascends (x ∷ xs) up (suc i) zero d ij jl = absurd (omega arith)
ascends (x ∷ xs) up (suc i) (suc j) d ij jl =
    ascends xs (both_true (list_all (λ y. is_lt (edition_cmp x y)) xs) (is_ascending edition_cmp xs) up).1 i j d (omega arith) (omega arith)

own-reverse : (r : Ordering) → r ≡ ordering_reverse r → r ≡ Equal
own-reverse Less h = cc
own-reverse Equal h = refl
own-reverse Greater h = cc

pub own-tie : (x : Edition) → edition_cmp x x ≡ Equal
own-tie x = own-reverse (edition_cmp x x) (id_total.antisymm (least x) (least x))

tie-from_least : (x y : Edition) → least x ≡ least y → edition_cmp x y ≡ Equal
tie-from_least x y same = ap (id_cmp (least x)) (sym same) ∙ own-tie x

-- of editions in order, one at most has a least contributor
pub one-place : (xs : List Edition) → IsTrue (is_ascending edition_cmp xs) → (i j : ℕ) (d : Edition) → i < length xs → j < length xs
    → least (get_or xs i d) ≡ least (get_or xs j d) → i ≡ j
one-place xs up i j d il jl same =
    elim (dec_lt i j) [
      | yes h ↦ absurd (clash i j h jl same)
      | no h ↦ elim (dec_lt j i) [ yes k ↦ absurd (clash j i k il (sym same)) | no k ↦ omega arith ]
    ]
  where
    clash : (i j : ℕ) → i < j → j < length xs → least (get_or xs i d) ≡ least (get_or xs j d) → ⊥
    clash i j ij jl same =
        let bad : Less ≡ Equal = sym (ascends xs up i j d ij jl) ∙ tie-from_least (get_or xs i d) (get_or xs j d) same in cc

index-below : (r s : Ordering) → (s ≡ Less → r ≡ Less) → (s ≡ Equal → r ≡ Less) → ordering_index r ≤ ordering_index s
index-below r Less f g = let is : r ≡ Less = f refl in rw is (omega arith)
index-below r Equal f g = let is : r ≡ Less = g refl in rw is (omega arith)
index-below Less Greater f g = omega arith
index-below Equal Greater f g = omega arith
index-below Greater Greater f g = omega arith

abbrev seen : List (Bor Edition) → List Edition
seen xs = map (λ e. e.now) xs

module _ (xs : List (Bor Edition)) (up : IsTrue (is_ascending edition_cmp (seen xs))) (e : Edition) where
  seen-at : (i : ℕ) (d : Bor Edition) → i < length xs → get_or (seen xs) i d.now ≡ (get_or xs i d).now
  seen-at i d il = get_or-map (λ (e : Bor Edition). e.now) xs i d d.now il

  rising-seen : IsNonDecreasingBy (λ y. ordering_index (edition_cmp y.now e)) xs
  rising-seen i j d ij jl =
      elim (dec_lt i j) [
        | yes h ↦ (let x = (get_or xs i d).now in
            let y = (get_or xs j d).now in
            let below : edition_cmp x y ≡ Less =
            ap (λ z. edition_cmp z y) (sym (seen-at i d (omega arith))) ∙ ap (edition_cmp (get_or (seen xs) i d.now)) (sym (seen-at j d jl))
            ∙ ascends (seen xs) up i j d.now h (omega (arith, length-map xs (λ (e : Bor Edition). e.now))) in
            index-below (edition_cmp x e) (edition_cmp y e) (λ less. id_total.trans (least x) (least y) (least e) below less)
            (λ tie. ap (id_cmp (least x)) (sym (ids_apart (least y) (least e) tie)) ∙ below))
        | no h ↦ (let same : i ≡ j = omega arith in rw same (omega arith))
      ]

  -- the one that ties with the edition is it, or it is not among them
  pub tied-seen : (i : ℕ) (d : Bor Edition) → i < length xs → edition_cmp (get_or xs i d).now e ≡ Equal → Contains (seen xs) e → (get_or xs i d).now ≡ e
  tied-seen i d il tie (k, kl, is) =
      let x = (get_or xs i d).now in
      let long = length-map xs (λ (e : Bor Edition). e.now) in
      let at : get_or (seen xs) i e ≡ x = get_or-map (λ (e : Bor Edition). e.now) xs i d e il in
      let same : least (get_or (seen xs) i e) ≡ least (get_or (seen xs) k e) =
      ap least at ∙ ids_apart (least x) (least e) tie ∙ ap least (sym is) in
      let place : i ≡ k = one-place (seen xs) up i k e (omega arith) kl same in
      sym at ∙ ap (λ n. get_or (seen xs) n e) place ∙ is

  pub standing-seen : (i : ℕ) (d : Bor Edition) → i < length xs → (get_or xs i d).now ≡ e → Contains (seen xs) e
  standing-seen i d il is =
      (i, omega (arith, length-map xs (λ (e : Bor Edition). e.now)), get_or-map (λ (e : Bor Edition). e.now) xs i d e il ∙ is)

  -- none ties with it, so it is not among them
  pub missing-seen : (i : ℕ) → (IsNonDecreasingBy (λ y. ordering_index (edition_cmp y.now e)) xs
      → IsPartitionPoint (λ y. edition_cmp y.now e ≡ Less) (λ y. edition_cmp y.now e ≡ Greater) xs i) → Contains (seen xs) e → ⊥
  missing-seen i parts (k, kl, is) = absent xs refl
    where
      absent : (ys : List (Bor Edition)) → ys ≡ xs → ⊥
      absent [] same = omega (arith, length-map xs (λ (e : Bor Edition). e.now), ap length same)
      absent (d ∷ rest) same =
          let long = length-map xs (λ (e : Bor Edition). e.now) in
          let at : (get_or xs k d).now ≡ e = sym (get_or-map (λ (e : Bor Edition). e.now) xs k d e (omega arith)) ∙ is in
          let tie : edition_cmp (get_or xs k d).now e ≡ Equal = ap (λ x. edition_cmp x e) at ∙ own-tie e in
          elim (dec_lt k i) [
            | yes h ↦ (let less : edition_cmp (get_or xs k d).now e ≡ Less = (parts rising-seen).0 k d (omega arith) h in
                let bad : Less ≡ Equal = sym less ∙ tie in cc)
            | no h ↦ (let above : edition_cmp (get_or xs k d).now e ≡ Greater = (parts rising-seen).1 k d (omega arith) (omega arith) in
                let bad : Greater ≡ Equal = sym above ∙ tie in cc)
          ]
