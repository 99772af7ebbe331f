-- What a follower holds, and the law of deltas that lead from list to list.
use Rattle.std.proofs.Common.{◌≡◌, ℕ, zero, suc, ◌<◌, Bool, true, false, IsTrue, List, [], ◌∷◌, ◌++◌, length, get_or, take, Contains, AllPairs, refl, sym, ap, subst, ◌∙◌, inl, inr, arith}
use Rattle.std.specs.Prelude.{Some, slice_get}
use Rattle.std.specs.List.{list_all, AllByRecursion}
use Rattle.std.specs.List.Sorted.{IsPermutation, IsSorted, IsStrictlySortedBy}
use Rattle.std.specs.declared.cmp.Ordering.{Ordering}
use Rattle.std.specs.declared.cmp.Ordering.TheVariants.{Less, Equal, Greater}
use Rattle.std.specs.Ordering.{is_lt, ordering_reverse}
use Rattle.std.proofs.Math.Decide.{dec_lt}
use Rattle.std.proofs.lemmas.List.{get_or_default, get_or-take, length-take}
use Rattle.std.proofs.lemmas.List.Elements.{Contains-append_left, Contains-append_right, Contains-append_cases}
use Rattle.std.proofs.lemmas.List.MinMax.{ranks_by}
use Rattle.std.proofs.lemmas.List.Sorted.{sorted_far, Contains-permutation, IsPermutation-sym}
use Rattle.std.proofs.lemmas.Option.{get_or_from_slice_get, slice_get_within, slice_get-get_or}
use Rattle.union_base.specs.Both.{both_true, true_both}
use Rattle.union_base.specs.IdLaws.{ids_apart}
use Rattle.union_base.specs.SortedLists.{is_ascending}
use Rattle.merge_laws.proofs.Places.{Contains-head, Contains-tail, Contains-cases, AllPairs-append, AllPairs-first, AllPairs-rest, AllPairs-permutation, same-from_related}
use Rattle.merge_laws.proofs.Sorted.{same-from_members}
use Rattle.union_base.specs.RecordIds.{id_cmp}
use Rattle.field_merge.specs.KeptLaws.{id_total}
use Rattle.catalogue_editions.specs.Ids.{least, edition_cmp}
use Rattle.catalogue_editions.specs.declared.edition.Edition.{Edition}
use Rattle.catalogue_editions.proofs.Apart.{least-stands}
use Rattle.edition_blocks.specs.Deltas.{AreOnlyIn, IsDelta}
use Rattle.change_notices.proofs.DecideLaws.{decided-member}
use Rattle.change_notices.specs.Followers.{share_contributor, AreHeld, IsDouble, IsNowhere, IsTaken, CanTake, Step, AreSteps, AreAllHeld, last_of, Follows}

-- ---- editions in order

lt-is : (r : Ordering) → is_lt r ≡ true → r ≡ Less
lt-is Less h = refl
lt-is Equal h = cc
lt-is Greater h = cc

all-at : {A : Type 0} (p : A → Bool) (xs : List A) → list_all p xs ≡ true → (k : ℕ) (d : A) → k < length xs → p (get_or xs k d) ≡ true
all-at p [] h k d kl = absurd (omega arith)
all-at p (x ∷ xs) h zero d kl = (both_true (p x) (list_all p xs) h).0
all-at p (x ∷ xs) h (suc k) d kl = all-at p xs (both_true (p x) (list_all p xs) h).1 k d (omega arith)

-- an earlier edition is below a later one
pub ascends : (xs : List Edition) → IsTrue (is_ascending edition_cmp xs) → (i j : ℕ) (d : Edition) → i < j → j < length xs → edition_cmp (get_or xs i d) (get_or xs j d) ≡ Less
ascends [] up i j d ij jl = absurd (omega arith)
ascends (x ∷ xs) up zero zero d ij jl = absurd (omega arith)
ascends (x ∷ xs) up zero (suc j) d ij jl =
    lt-is (edition_cmp x (get_or xs j d)) (all-at (λ y. is_lt (edition_cmp x y)) xs (both_true (list_all (λ y. is_lt (edition_cmp x y)) xs) (is_ascending edition_cmp xs) up).0 j d (omega arith))
ascends (x ∷ xs) up (suc i) zero d ij jl = absurd (omega arith)
ascends (x ∷ xs) up (suc i) (suc j) d ij jl =
    ascends xs (both_true (list_all (λ y. is_lt (edition_cmp x y)) xs) (is_ascending edition_cmp xs) up).1 i j d (omega arith) (omega arith)

own-reverse : (r : Ordering) → r ≡ ordering_reverse r → r ≡ Equal
own-reverse Less h = cc
own-reverse Equal h = refl
own-reverse Greater h = cc

pub own-tie : (x : Edition) → edition_cmp x x ≡ Equal
own-tie x = own-reverse (edition_cmp x x) (id_total.antisymm (least x) (least x))

tie-from_least : (x y : Edition) → least x ≡ least y → edition_cmp x y ≡ Equal
tie-from_least x y same = ap (id_cmp (least x)) (sym same) ∙ own-tie x

-- of editions in order, one at most has a least contributor
pub one-place : (xs : List Edition) → IsTrue (is_ascending edition_cmp xs) → (i j : ℕ) (d : Edition) → i < length xs → j < length xs
    → least (get_or xs i d) ≡ least (get_or xs j d) → i ≡ j
one-place xs up i j d il jl same =
    elim (dec_lt i j) [
      | yes h ↦ absurd (clash i j h jl same)
      | no h ↦ elim (dec_lt j i) [ yes k ↦ absurd (clash j i k il (sym same)) | no k ↦ omega arith ]
    ]
  where
    clash : (i j : ℕ) → i < j → j < length xs → least (get_or xs i d) ≡ least (get_or xs j d) → ⊥
    clash i j ij jl same =
        let bad : Less ≡ Equal = sym (ascends xs up i j d ij jl) ∙ tie-from_least (get_or xs i d) (get_or xs j d) same in cc

one-way : (x y : Edition) → edition_cmp x y ≡ Less → edition_cmp y x ≡ Less → ⊥
one-way x y p q =
    let clash : Less ≡ Greater = sym p ∙ id_total.antisymm (least x) (least y) ∙ ap ordering_reverse q in cc

below-each : (x : Edition) (ys : List Edition) → list_all (λ y. is_lt (edition_cmp x y)) ys ≡ true → AllByRecursion (λ y. edition_cmp x y ≡ Less) ys
below-each x [] h = tt
below-each x (y ∷ ys) h =
    let parts = both_true (is_lt (edition_cmp x y)) (list_all (λ y. is_lt (edition_cmp x y)) ys) h in (lt-is (edition_cmp x y) parts.0, below-each x ys parts.1)

strictly-sorted : (xs : List Edition) → is_ascending edition_cmp xs ≡ true → IsStrictlySortedBy edition_cmp xs
unfolding IsStrictlySortedBy
strictly-sorted [] h = tt
strictly-sorted (x ∷ xs) h =
    let parts = both_true (list_all (λ y. is_lt (edition_cmp x y)) xs) (is_ascending edition_cmp xs) h in (below-each x xs parts.0, strictly-sorted xs parts.1)

-- ---- editions without a common contributor

share-back : (x y : Edition) → share_contributor x y → share_contributor y x
share-back x y (id, p, q) = (id, q, p)

pub apart-back : (x y : Edition) → (share_contributor x y → ⊥) → share_contributor y x → ⊥
apart-back x y none both = none (share-back y x both)

pub share-own : (x : Edition) → share_contributor x x
share-own x = (least x, least-stands x, least-stands x)

share-least : (x y : Edition) → least x ≡ least y → share_contributor x y
share-least x y same = (least x, least-stands x, subst (Contains y.content.contributors) (sym same) (least-stands y))

-- held editions that share a contributor are one
pub one-held : (xs : List Edition) → AllPairs (λ x y. share_contributor x y → ⊥) xs → (x y : Edition) → Contains xs x → Contains xs y → share_contributor x y → x ≡ y
one-held xs apart = same-from_related share_contributor xs (λ i j d ij jl. (apart i j d ij jl, apart-back (get_or xs i d) (get_or xs j d) (apart i j d ij jl)))

-- editions in order, of which no two are held apart otherwise, are apart
pub pairs-held : (held xs : List Edition) → AreHeld held → IsTrue (is_ascending edition_cmp xs) → ((x : Edition) → Contains xs x → Contains held x)
    → AllPairs (λ x y. share_contributor x y → ⊥) xs
pairs-held held xs h up within i j d ij jl both =
    let x = get_or xs i d in
    let y = get_or xs j d in
    let same : x ≡ y = one-held held h.apart x y (within x (i, omega arith, sym (get_or_default xs i d x (omega arith)))) (within y (j, jl, sym (get_or_default xs j d y jl))) both in
    let place : i ≡ j = one-place xs up i j d (omega arith) jl (ap least same) in
    omega arith

all-from : {A : Type 0} (p : A → Bool) (xs : List A) → ((x : A) → Contains xs x → p x ≡ true) → list_all p xs ≡ true
all-from p [] h = refl
all-from p (x ∷ xs) h = true_both (p x) (list_all p xs) (h x (Contains-head x xs)) (all-from p xs (λ y c. h y (Contains-tail x xs y c)))

ascending-from_pairs : (xs : List Edition) → AllPairs (λ x y. edition_cmp x y ≡ Less) xs → is_ascending edition_cmp xs ≡ true
ascending-from_pairs [] all = refl
ascending-from_pairs (x ∷ xs) all =
    true_both (list_all (λ y. is_lt (edition_cmp x y)) xs) (is_ascending edition_cmp xs)
    (all-from (λ y. is_lt (edition_cmp x y)) xs (λ y c. ap is_lt (AllPairs-first (λ x y. edition_cmp x y ≡ Less) x xs all y c)))
    (ascending-from_pairs xs (AllPairs-rest (λ x y. edition_cmp x y ≡ Less) x xs all))

less-from_not : (r s : Ordering) → s ≡ ordering_reverse r → is_lt r ≡ false → (s ≡ Equal → ⊥) → s ≡ Less
less-from_not Less s e h never = cc
less-from_not Equal s e h never = absurd (never e)
less-from_not Greater s e h never = e

-- sorted editions of which no two share a contributor are as a follower holds them
pub held-from_sorted : (xs sorted : List Edition) → AllPairs (λ x y. share_contributor x y → ⊥) xs → IsPermutation xs sorted → IsSorted edition_cmp sorted → AreHeld sorted
held-from_sorted xs sorted apart p up =
    let apart' = AllPairs-permutation (λ x y. share_contributor x y → ⊥) apart-back xs sorted p apart in
    record {
      ascending = ascending-from_pairs sorted (λ i j d ij jl.
          let x = get_or sorted i d in
          let y = get_or sorted j d in
          less-from_not (edition_cmp y x) (edition_cmp x y) (id_total.antisymm (least x) (least y))
          (sorted_far (λ a b. is_lt (edition_cmp a b)) (ranks_by id_total least) sorted up i j d (omega arith) jl)
          (λ tie. apart' i j d ij jl (share-least x y (ids_apart (least x) (least y) tie))));
      apart = apart';
    }

all-take : {A : Type 0} (p : A → Bool) (xs : List A) (n : ℕ) → list_all p xs ≡ true → list_all p (take n xs) ≡ true
all-take p [] zero h = refl
all-take p [] (suc n) h = refl
all-take p (x ∷ xs) zero h = refl
all-take p (x ∷ xs) (suc n) h = let parts = both_true (p x) (list_all p xs) h in true_both (p x) (list_all p (take n xs)) parts.0 (all-take p xs n parts.1)

-- the first of editions in order are in order
pub ascending-take : (xs : List Edition) (n : ℕ) → is_ascending edition_cmp xs ≡ true → is_ascending edition_cmp (take n xs) ≡ true
ascending-take [] zero h = refl
ascending-take [] (suc n) h = refl
ascending-take (x ∷ xs) zero h = refl
ascending-take (x ∷ xs) (suc n) h =
    let parts = both_true (list_all (λ y. is_lt (edition_cmp x y)) xs) (is_ascending edition_cmp xs) h in
    true_both (list_all (λ y. is_lt (edition_cmp x y)) (take n xs)) (is_ascending edition_cmp (take n xs)) (all-take (λ y. is_lt (edition_cmp x y)) xs n parts.0) (ascending-take xs n parts.1)

-- ---- a delta that is taken

-- what stays and what enters, in order
pub taken-by : (held closed opened staying now : List Edition) → AreHeld held → AreOnlyIn held closed staying → IsNowhere (IsDouble held closed opened)
    → IsPermutation (staying ++ opened) now → IsSorted edition_cmp now → IsTaken held closed opened now
taken-by held closed opened staying now h only none p up = record {
  members = λ e. (
    λ c. elim (Contains-append_cases staying opened e (Contains-permutation now (staying ++ opened) e (IsPermutation-sym (staying ++ opened) now p) c)) [
      | inl stays ↦ inl ((only.members e).0 stays)
      | inr fresh ↦ inr fresh
    ],
    λ why. Contains-permutation (staying ++ opened) now e p (elim why [
      | inl stays ↦ Contains-append_left staying opened e ((only.members e).1 stays)
      | inr fresh ↦ Contains-append_right staying opened e fresh
    ]),
  );
  is_held = held-from_sorted (staying ++ opened) now
      (AllPairs-append (λ x y. share_contributor x y → ⊥) staying opened
      (pairs-held held staying h only.ascending (λ x c. ((only.members x).0 c).0))
      (λ i j d ij jl both. none j (record {
        edition = get_or opened j d;
        stands = slice_get-get_or opened j d jl;
        other = get_or opened i d;
        beside = inr (earlier i j d ij jl);
        shares = both;
      }))
      (λ x y cx cy both. let (j, jl, is) = cy in none j (record {
        edition = y;
        stands = slice_get-get_or opened j y jl ∙ ap Some is;
        other = x;
        beside = inl ((only.members x).0 cx);
        shares = both;
      })))
      p up;
}
  where
    earlier : (i j : ℕ) (d : Edition) → i < j → j < length opened → Contains (take j opened) (get_or opened i d)
    earlier i j d ij jl = (
      i,
      omega (arith, length-take j opened),
      get_or-take j opened i (get_or opened i d) ij ∙ get_or_default opened i (get_or opened i d) d (omega arith),
    )

pub at-member : (xs : List Edition) (k : ℕ) (e : Edition) → slice_get xs k ≡ Some e → Contains xs e
at-member xs k e is = (k, slice_get_within xs k e is, get_or_from_slice_get xs k e e is)

pub member-place : (xs : List Edition) (k : ℕ) (e : Edition) → Contains (take k xs) e → (j : ℕ) × (j < k) × (slice_get xs j ≡ Some e)
member-place [] k e c = absurd (none k c)
  where
    none : (k : ℕ) → Contains (take k []) e → ⊥
    none zero (j, jl, is) = omega arith
    none (suc k) (j, jl, is) = omega arith
member-place (x ∷ xs) zero e (j, jl, is) = absurd (omega arith)
member-place (x ∷ xs) (suc k) e c =
    elim (Contains-cases x (take k xs) e c) [
      | inl same ↦ (0, omega arith, ap Some same)
      | inr later ↦ (let (j, jk, is) = member-place xs k e later in (suc j, omega arith, is))
    ]

two-places : (xs : List Edition) → IsTrue (is_ascending edition_cmp xs) → (i j : ℕ) (x y : Edition) → slice_get xs i ≡ Some x → slice_get xs j ≡ Some y → x ≡ y → i ≡ j
two-places xs up i j x y at there same =
    one-place xs up i j x (slice_get_within xs i x at) (slice_get_within xs j y there)
    (ap least (get_or_from_slice_get xs i x x at ∙ same ∙ sym (get_or_from_slice_get xs j y x there)))

module _ (before after closed opened : List Edition) (held : AreHeld before) (next : AreHeld after) (delta : IsDelta before after closed opened) where
  pub delta-fits : CanTake before closed opened
  delta-fits = record {
    none_missing = λ at missing. elim missing.lacks [
      | inl out ↦ out ((delta.closed.members missing.edition).0 (at-member closed at missing.edition missing.stands)).0
      | inr earlier ↦ (let (j, jk, is) = member-place closed at missing.edition earlier in
          let same : j ≡ at = two-places closed delta.closed.ascending j at missing.edition missing.edition is missing.stands refl in omega arith)
    ];
    none_double = λ at double.
        let e = double.edition in
        let x = double.other in
        let (there, old) = (delta.opened.members e).0 (at-member opened at e double.stands) in
        elim double.beside [
          | inl (stood, open') ↦ open' ((delta.closed.members x).1 (
            stood,
            λ still.
                let same : x ≡ e = one-held after next.apart x e still there double.shares in
                old (subst (Contains before) same stood),
          ))
          | inr earlier ↦ (let (j, jk, is) = member-place opened at x earlier in
              let (also, fresh) = (delta.opened.members x).0 (at-member opened j x is) in
              let same : x ≡ e = one-held after next.apart x e also there double.shares in
              let place : j ≡ at = two-places opened delta.opened.ascending j at x e is double.stands same in omega arith)
        ];
  }

  -- what a follower holds then is the list after
  pub taken-is_after : (now : List Edition) → IsTaken before closed opened now → now ≡ after
  taken-is_after now taken =
      same-from_members edition_cmp one-way now after (strictly-sorted now taken.is_held.ascending) (strictly-sorted after next.ascending)
      (λ e c. elim ((taken.members e).0 c) [
        | inl (stood, open') ↦ elim (decided-member after e) [
          | inl there ↦ there
          | inr none ↦ absurd (open' ((delta.closed.members e).1 (stood, none)))
        ]
        | inr fresh ↦ ((delta.opened.members e).0 fresh).0
      ])
      (λ e c. (taken.members e).1 (elim (decided-member before e) [
        | inl stood ↦ inl (stood, λ gone. ((delta.closed.members e).0 gone).1 c)
        | inr none ↦ inr ((delta.opened.members e).1 (c, none))
      ]))

pub none-held : AreHeld []
none-held = record { ascending = refl; apart = λ i j d ij jl. absurd (omega arith) }

pub follows : (before : List Edition) (lists : List (List Edition)) (steps : List Step) → AreHeld before → AreAllHeld lists → AreSteps before lists steps
    → Follows before steps (last_of before lists)
follows before [] [] held all are = refl
follows before [] (step ∷ steps) held all are = absurd are
follows before (next ∷ lists) [] held all are = absurd are
follows before (next ∷ lists) (step ∷ steps) held all are = (
  delta-fits before next step.closed step.opened held all.0 are.0,
  λ now taken. subst (λ list. Follows list steps (last_of next lists)) (sym (taken-is_after before next step.closed step.opened held all.0 are.0 now taken))
      (follows next lists steps all.0 all.1 are.1),
)
