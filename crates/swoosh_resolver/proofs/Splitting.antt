-- Views of blocks and a change, when a member is taken apart.
use Rattle.std.proofs.Common.{Bor, ◌≡◌, ℕ, zero, suc, ◌≢◌, ◌+◌, ◌-◌, ◌<◌, Bool, List, [], ◌∷◌, ◌++◌, Option, None, Some, length, get_or, take, append_assoc, refl, sym, ◌∙◌, ap, subst, inl, inr, arith}
use Rattle.std.specs.Prelude.{AllPairs, IfSome, IsSome, Contains, option_copied, option_map, remove, swap_remove, slice_get, slice_set}
use Rattle.std.specs.List.Sorted.{IsPermutation}
use Rattle.std.proofs.lemmas.List.{get_or_default, map-append, take_more, take_all}
use Rattle.std.proofs.lemmas.List.Quantifiers.{all_pairs_remove}
use Rattle.std.proofs.lemmas.List.Elements.{Contains-append_cases, Contains-append_left, Contains-get_or}
use Rattle.std.proofs.lemmas.List.Sorted.{Contains-permutation, IsPermutation-sym, IsPermutation-refl, IsPermutation-cons, IsPermutation-trans, IsPermutation-middle, IsPermutation-map, IsPermutation-to_front, IsPermutation-append_left, IsPermutation-append_right, IsPermutation-remove}
use Rattle.std.proofs.lemmas.Option.{slice_get_within, get_or_from_slice_get}
use Rattle.merge_laws.specs.Resolution.{AreApart, DoNotMatch}
use Rattle.merge_laws.proofs.Places.{AllPairs-append, AllPairs-permutation, Contains-tail}
use Rattle.swoosh_resolver.specs.declared.change.Place.{Place}
use Rattle.swoosh_resolver.specs.declared.change.Place.TheVariants.{Kept, Fresh}
use Rattle.swoosh_resolver.specs.Tables.{Base, Entry, block_at, blocks_in, values_of}
use Rattle.swoosh_resolver.specs.Changes.{without, view_of, Fits, IsClosed, StandApart}
use Rattle.swoosh_resolver.specs.Splits.{member_at, closed_after, opened_after, others_of, Splits}
use Rattle.swoosh_resolver.proofs.Views.{taken-kept, fits-kept}

module _ {X : Type 0} where
  swapped : (n : ℕ) (xs : List X) (i : ℕ) (d : X) → length xs ≡ suc n → i < suc n → IsPermutation (remove xs i) (take n (slice_set xs i (get_or xs n d)))
  swapped n [] i d e h = absurd (omega arith)
  swapped zero (x ∷ []) zero d e h = IsPermutation-refl []
  swapped zero (x ∷ y ∷ ys) zero d e h = absurd (omega arith)
  swapped zero (x ∷ xs) (suc i) d e h = absurd (omega arith)
  swapped (suc n) (x ∷ xs) zero d e h =
      let more = take_more xs n d (omega arith) in
      let all = take_all (n + 1) xs (omega arith) in
      subst (λ ys. IsPermutation ys (get_or xs n d ∷ take n xs)) (sym more ∙ all) (IsPermutation-to_front (take n xs) (get_or xs n d))
  swapped (suc n) (x ∷ xs) (suc i) d e h = IsPermutation-cons x (remove xs i) (take n (slice_set xs i (get_or xs n d))) (swapped n xs i d (omega arith) (omega arith))

  -- a member is taken out, and the last takes its place or all after it move up
  pub remove-swapped : (xs : List X) (i : ℕ) (d : X) → i < length xs → IsPermutation (remove xs i) (swap_remove xs i d)
  remove-swapped xs i d h = swapped (length xs - 1) xs i d (omega arith) (omega arith)

  pub within-from_got : (xs : List X) (i : ℕ) → IsSome (slice_get xs i) → i < length xs
  within-from_got [] i h = absurd cc
  within-from_got (x ∷ xs) zero h = omega arith
  within-from_got (x ∷ xs) (suc i) h = let less = within-from_got xs i h in omega arith

module _ {R K : Type 0} (blocks : List (Option (Entry R K))) (closed : List ℕ) (opened : List (Entry R K)) where
  -- the member at a place and the others are the view
  pub taken-at : (at : Place) (e : Entry R K) → member_at blocks closed opened at ≡ Some e → IsPermutation (view_of blocks closed opened) (e.value ∷ others_of blocks closed opened at)
  taken-at (Kept n) e stands = taken-kept blocks closed opened n e stands
  taken-at (Fresh i) e stands =
      let left = blocks_in (without blocks closed) in
      let rest = remove opened i in
      IsPermutation-map (λ (e : Entry R K). e.value) (left ++ opened) (e ∷ left ++ rest)
      (IsPermutation-trans (left ++ opened) (left ++ e ∷ rest) (e ∷ left ++ rest)
      (IsPermutation-append_right left opened (e ∷ rest) (IsPermutation-remove opened i e (slice_get_within opened i e stands) (sym (get_or_from_slice_get opened i e e stands))))
      (IsPermutation-middle left e rest))

  pub others-from_member : (at : Place) (o : Option (Bor R)) → option_copied o ≡ option_map (λ e. e.value) (member_at blocks closed opened at)
      → IfSome o (λ m. IsPermutation (view_of blocks closed opened) (m.now ∷ others_of blocks closed opened at))
  others-from_member at None h = tt
  others-from_member at (Some m) h = go (member_at blocks closed opened at) refl
    where
      go : (o : Option (Entry R K)) → member_at blocks closed opened at ≡ o → IsPermutation (view_of blocks closed opened) (m.now ∷ others_of blocks closed opened at)
      go None e = absurd (let f = rw e at h in cc)
      go (Some x) e = let f = rw e at h in let same : x.value ≡ m.now = cc in subst (λ v. IsPermutation (view_of blocks closed opened) (v ∷ others_of blocks closed opened at)) same (taken-at at x e)

  module _ {match : R → R → Bool} (fits : Fits match blocks closed opened) where
    -- the closed numbers are distinct and each is that of a block, also once the member is taken out
    distinct_after : (at : Place) → IsSome (member_at blocks closed opened at) → AllPairs (λ m n. m ≢ n) (closed_after closed at)
    distinct_after (Fresh i) stands = fits.distinct
    distinct_after (Kept n) stands = go (block_at (without blocks closed) n) refl
      where
        go : (o : Option (Entry R K)) → block_at (without blocks closed) n ≡ o → AllPairs (λ m n. m ≢ n) (closed ++ n ∷ [])
        go None e = absurd (let no = rw e at stands in cc)
        go (Some x) e = let kept = fits-kept blocks closed opened fits n x e in kept.distinct

    named_after : (at : Place) → IsSome (member_at blocks closed opened at) → (m : ℕ) → Contains (closed_after closed at) m → IsSome (block_at blocks m)
    named_after (Fresh i) stands = fits.named
    named_after (Kept n) stands = go (block_at (without blocks closed) n) refl
      where
        go : (o : Option (Entry R K)) → block_at (without blocks closed) n ≡ o → (m : ℕ) → Contains (closed ++ n ∷ []) m → IsSome (block_at blocks m)
        go None e = absurd (let no = rw e at stands in cc)
        go (Some x) e = let kept = fits-kept blocks closed opened fits n x e in kept.named

    -- the opened values stand on closed blocks, each alone, also once the member is taken out
    based_after : (at : Place) → IsSome (member_at blocks closed opened at) → (e : Entry R K) (b : Base R) → Contains (opened_after opened at) e → e.base ≡ Some b → IsClosed blocks (closed_after closed at) b
    based_after (Kept n) stands e b c is = let old = fits.based e b c is in record { closes = Contains-append_left closed (n ∷ []) b.number old.closes; is = old.is }
    based_after (Fresh i) stands e b c is =
        let within = within-from_got opened i stands in
        let x = get_or opened i e in
        fits.based e b (Contains-permutation (x ∷ remove opened i) opened e
        (IsPermutation-sym opened (x ∷ remove opened i) (IsPermutation-remove opened i x within (get_or_default opened i e x within)))
        (Contains-tail x (remove opened i) e c)) is

    alone_after : (at : Place) → IsSome (member_at blocks closed opened at) → AllPairs StandApart (opened_after opened at)
    alone_after (Kept n) stands = fits.alone
    alone_after (Fresh i) stands = all_pairs_remove StandApart opened i (within-from_got opened i stands) fits.alone

  module _ {at : Place} {parts : List R} {closed' : List ℕ} {opened' : List (Entry R K)} (s : Splits closed opened at parts closed' opened') where
    -- the parts take the place of the member
    pub split-view : IsPermutation (others_of blocks closed opened at ++ parts) (view_of blocks closed' opened')
    split-view =
        let left = blocks_in (without blocks closed') in
        let one : view_of blocks closed' opened' ≡ values_of (left ++ s.left) ++ parts =
        ap (λ o. values_of (left ++ o)) s.opens.last
        ∙ ap values_of (sym (append_assoc left s.left s.opens.fresh))
        ∙ map-append (λ (e : Entry R K). e.value) (left ++ s.left) s.opens.fresh
        ∙ ap (λ v. values_of (left ++ s.left) ++ v) s.opens.are in
        rw (one, ← s.closes)
        (IsPermutation-append_left parts (values_of (left ++ opened_after opened at)) (values_of (left ++ s.left))
        (IsPermutation-map (λ (e : Entry R K). e.value) (left ++ opened_after opened at) (left ++ s.left)
        (IsPermutation-append_right left (opened_after opened at) s.left s.stay)))

    pub split-fits : {match : R → R → Bool} → Fits match blocks closed opened → IsSome (member_at blocks closed opened at) → AreApart match (others_of blocks closed opened at ++ parts) → Fits match blocks closed' opened'
    split-fits {match} fits stands apart = record {
      distinct = rw s.closes (distinct_after fits at stands);
      named = rw s.closes (named_after fits at stands);
      apart = AllPairs-permutation (DoNotMatch match) (λ x y h. (h.1, h.0)) (others_of blocks closed opened at ++ parts) (view_of blocks closed' opened') split-view apart;
      based = λ e b c is. elim (Contains-append_cases s.left s.opens.fresh e (subst (λ xs. Contains xs e) s.opens.last c)) as (λ _. IsClosed blocks closed' b) [
        | inl before ↦ (let old = based_after fits at stands e b (Contains-permutation s.left (opened_after opened at) e (IsPermutation-sym (opened_after opened at) s.left s.stay) before) is in rw s.closes old)
        | inr new ↦ (let none = s.opens.free e new in absurd cc)
      ];
      alone = rw s.opens.last (AllPairs-append StandApart s.left s.opens.fresh
          (AllPairs-permutation StandApart (λ x y h a b is is' same. h b a is' is (sym same)) (opened_after opened at) s.left s.stay (alone_after fits at stands))
          (λ i j d ij jl a b is is'. (let none = s.opens.free (get_or s.opens.fresh i d) (Contains-get_or s.opens.fresh i d (omega arith)) in absurd cc))
          (λ x y cx cy a b is is'. (let none = s.opens.free y cy in absurd cc)));
    }
