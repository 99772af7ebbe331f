-- The editions that have an index key, as the index of the blocks finds them.
use Rattle.std.proofs.Common.{◌≡◌, ◌≢◌, ℕ, zero, suc, ◌<◌, Bool, true, false, cond, List, [], ◌∷◌, Contains, AllPairs, refl, sym, ap, subst, ◌∙◌, inl, inr, arith}
use Rattle.std.specs.Prelude.{◌↔◌, filter, filter_map, Option, Some, None, Result, Ok, Err, IfOk}
use Rattle.std.specs.Option.{option_map}
use Rattle.std.specs.List.{list_all, cons_option}
use Rattle.std.specs.List.Sorted.{IsPermutation, IsSorted}
use Rattle.std.specs.Ordering.{is_lt}
use Rattle.std.proofs.lemmas.List.Elements.{All-contains, All-contains_itself, All-filter, filter_passes}
use Rattle.std.proofs.lemmas.List.Kept.{AllPairs-cons, AllPairs-filter}
use Rattle.std.proofs.lemmas.List.Sorted.{Contains-permutation, IsPermutation-sym, IsPermutation-trans}
use Rattle.union_base.specs.Both.{both_true, true_both}
use Rattle.union_base.specs.SortedLists.{is_ascending}
use Rattle.merge_laws.specs.Resolution.{DoNotMatch, member}
use Rattle.merge_laws.proofs.Places.{Contains-head, Contains-tail, Contains-cases, All-from_members, AllPairs-first, AllPairs-none, AllPairs-permutation, AllPairs-rest, IsPermutation-from_members}
use Rattle.merge_laws.proofs.Resolutions.{IsDominated-refl, apart-from_resolution, once-in_resolution, IsResolution-from_apart}
use Rattle.feature_index.specs.Postings.{Ascends}
use Rattle.match_features.proofs.PostedLaws.{told-from_posted, posted-from_told}
use Rattle.match_features.specs.declared.keys.FeatureKey.{FeatureKey}
use Rattle.swoosh_resolver.specs.Tables.{block_at, blocks_in, values_of}
use Rattle.swoosh_resolver.proofs.Places.{block-from_value, number-from_block}
use Rattle.catalogue_editions.specs.Ids.{edition_cmp}
use Rattle.catalogue_editions.specs.IndexKeys.{has_key}
use Rattle.catalogue_editions.specs.JoinLaws.{edition_join_laws}
use Rattle.catalogue_editions.specs.Matching.{match, IsPostedUnder}
use Rattle.catalogue_editions.specs.MatchLaws.{edition_match_laws}
use Rattle.catalogue_editions.specs.Resolutions.{IsOrderedResolution}
use Rattle.catalogue_editions.specs.declared.edition.Edition.{Edition}
use Rattle.catalogue_editions.proofs.Apart.{one-ordered, ordered-from_sorted}
use Rattle.edition_blocks.proofs.BlockLaws.{Block, block-stands, value-in, in-value}
use Rattle.edition_blocks.proofs.LookingLaws.{value_at}
use Rattle.catalogue_editions.proofs.MappedLaws.{mapped-from_member, member-from_mapped}

-- ---- what a test keeps of a list

member-filter : {A : Type 0} (p : A → Bool) (xs : List A) (x : A) → Contains xs x → p x ≡ true → Contains (filter p xs) x
member-filter p [] x (k, kl, e) h = absurd (omega arith)
member-filter p (y ∷ ys) x c h =
    elim (p y) as (λ b. p y ≡ b → Contains (cond b (y ∷ filter p ys) (filter p ys)) x) [
      | true ↦ λ is. elim (Contains-cases y ys x c) [
        | inl same ↦ subst (Contains (y ∷ filter p ys)) same (Contains-head y (filter p ys))
        | inr later ↦ Contains-tail y (filter p ys) x (member-filter p ys x later h)
      ]
      | false ↦ λ is. elim (Contains-cases y ys x c) [
        | inl same ↦ absurd (let clash : true ≡ false = sym h ∙ ap p (sym same) ∙ is in cc)
        | inr later ↦ member-filter p ys x later h
      ]
    ] refl

member-from_filter : {A : Type 0} (p : A → Bool) (xs : List A) (x : A) → Contains (filter p xs) x → Contains xs x × (p x ≡ true)
member-from_filter p xs x c = (
  All-contains (Contains xs) (filter p xs) x (All-filter p (Contains xs) xs (All-contains_itself xs)) c,
  All-contains (λ y. p y ≡ true) (filter p xs) x (filter_passes p xs) c,
)

all-filter : {A : Type 0} (p q : A → Bool) (xs : List A) → list_all q xs ≡ true → list_all q (filter p xs) ≡ true
all-filter p q [] all = refl
all-filter p q (x ∷ xs) all =
    let parts = both_true (q x) (list_all q xs) all in
    elim (p x) as (λ b. list_all q (cond b (x ∷ filter p xs) (filter p xs)) ≡ true) [
      | true ↦ true_both (q x) (list_all q (filter p xs)) parts.0 (all-filter p q xs parts.1)
      | false ↦ all-filter p q xs parts.1
    ]

ascending-filter : (p : Edition → Bool) (xs : List Edition) → is_ascending edition_cmp xs ≡ true → is_ascending edition_cmp (filter p xs) ≡ true
ascending-filter p [] up = refl
ascending-filter p (x ∷ xs) up =
    let parts = both_true (list_all (λ y. is_lt (edition_cmp x y)) xs) (is_ascending edition_cmp xs) up in
    elim (p x) as (λ b. is_ascending edition_cmp (cond b (x ∷ filter p xs) (filter p xs)) ≡ true) [
      | true ↦ true_both (list_all (λ y. is_lt (edition_cmp x y)) (filter p xs)) (is_ascending edition_cmp (filter p xs))
          (all-filter p (λ y. is_lt (edition_cmp x y)) xs parts.0) (ascending-filter p xs parts.1)
      | false ↦ ascending-filter p xs parts.1
    ]

-- some editions of a resolution, in order, are the one ordered resolution of themselves
ordered-some : (p : Edition → Bool) (list all : List Edition) → IsOrderedResolution list all → IsOrderedResolution (filter p all) (filter p all)
ordered-some p list all is =
    let some = filter p all in
    record {
      resolved = IsResolution-from_apart edition_join_laws edition_match_laws some some (λ e c. member c) (λ e c. (e, c, IsDominated-refl edition_join_laws edition_match_laws e))
          (AllPairs-filter (DoNotMatch match) p all (apart-from_resolution edition_join_laws edition_match_laws list all is.resolved));
      ascending = ascending-filter p all is.ascending;
    }

-- what follows from two clauses of one call
pub both-ok : {X E : Type 0} (r : Result X E) (P Q R : X → Type 0) → ((x : X) → P x → Q x → R x) → IfOk r P → IfOk r Q → IfOk r R
both-ok (Ok x) P Q R more p q = more x p q
both-ok (Err e) P Q R more p q = tt

-- ---- blocks under numbers

-- blocks under two numbers differ
differ : (blocks : List (Option Block)) → AllPairs (λ x y. x ≢ y) (values_of (blocks_in blocks)) → (m n : ℕ) (e f : Block) → m < n
    → block_at blocks m ≡ Some e → block_at blocks n ≡ Some f → e.value ≢ f.value
differ [] once m n e f lt at there = cc
differ (b ∷ bs) once m zero e f lt at there = absurd (omega arith)
differ (None ∷ bs) once zero (suc n) e f lt at there = cc
differ (Some y ∷ bs) once zero (suc n) e f lt at there =
    λ same. let first : y.value ≡ e.value = cc in
    AllPairs-first (λ x y. x ≢ y) y.value (values_of (blocks_in bs)) once f.value (value-in (blocks_in bs) f (block-stands bs n f there)) (first ∙ same)
differ (None ∷ bs) once (suc m) (suc n) e f lt at there = differ bs once m n e f (omega arith) at there
differ (Some y ∷ bs) once (suc m) (suc n) e f lt at there =
    differ bs (AllPairs-rest (λ x y. x ≢ y) y.value (values_of (blocks_in bs)) once) m n e f (omega arith) at there

found-once : (blocks : List (Option Block)) → AllPairs (λ x y. x ≢ y) (values_of (blocks_in blocks)) → (numbers : List ℕ) → Ascends numbers
    → AllPairs (λ x y. x ≢ y) (filter_map (value_at blocks) numbers)
found-once blocks once [] up = AllPairs-none (λ (x : Edition) (y : Edition). x ≢ y)
found-once blocks once (n ∷ numbers) up =
    let rest = found-once blocks once numbers (AllPairs-rest (λ m n. m < n) n numbers up) in
    let later = filter_map (value_at blocks) numbers in
    elim (value_at blocks n) as (λ o. value_at blocks n ≡ o → AllPairs (λ x y. x ≢ y) (cons_option o later)) [
      | Some x ↦ λ is. AllPairs-cons (λ (x : Edition) (y : Edition). x ≢ y) x later
          (All-from_members (λ y. x ≢ y) later (λ y c.
          let (m, cm, at) = member-from_mapped (value_at blocks) numbers y c in
          let (e, stands, value) = block-from_value (block_at blocks n) x (sym is) in
          let (f, there, other) = block-from_value (block_at blocks m) y (sym at) in
          λ same. differ blocks once n m e f (AllPairs-first (λ m n. m < n) n numbers up m cm) stands there (sym value ∙ same ∙ other)))
          rest
      | None ↦ λ is. rest
    ] refl

-- ---- the numbers under a key

module _ (blocks : List (Option Block)) (key : FeatureKey) (numbers : List ℕ) (posted : (n : ℕ) → Contains numbers n ↔ ((e : Block) × (block_at blocks n ≡ Some e) × IsPostedUnder e.value key)) (list all : List Edition) (is : IsOrderedResolution list all) (same : IsPermutation (values_of (blocks_in blocks)) all) where
  abbrev found : List Edition
  found = filter_map (value_at blocks) numbers

  kept-from_found : (x : Edition) → Contains found x → Contains (filter (has_key key) all) x
  kept-from_found x c =
      let (n, cn, at) = member-from_mapped (value_at blocks) numbers x c in
      let (e, stands, value) = block-from_value (block_at blocks n) x (sym at) in
      let (f, there, has) = (posted n).0 cn in
      let both : ◌≡◌ {A = Option Block} (Some f) (Some e) = sym there ∙ stands in
      let one : f ≡ e = cc in
      let bears : has_key key x ≡ true = ap (has_key key) (value ∙ ap (λ (b : Block). b.value) (sym one)) ∙ told-from_posted f.value.features key has in
      let within : Contains (values_of (blocks_in blocks)) x = subst (Contains (values_of (blocks_in blocks))) (sym value) (value-in (blocks_in blocks) e (block-stands blocks n e stands)) in
      member-filter (has_key key) all x (Contains-permutation (values_of (blocks_in blocks)) all x same within) bears

  found-from_kept : (x : Edition) → Contains (filter (has_key key) all) x → Contains found x
  found-from_kept x c =
      let (within, bears) = member-from_filter (has_key key) all x c in
      let (e, ce, value) = in-value (blocks_in blocks) x (Contains-permutation all (values_of (blocks_in blocks)) x (IsPermutation-sym (values_of (blocks_in blocks)) all same) within) in
      let (n, at) = number-from_block blocks e ce in
      mapped-from_member (value_at blocks) numbers n x
      ((posted n).1 (e, at, posted-from_told e.value.features key (ap (has_key key) value ∙ bears)))
      (ap (option_map (λ (b : Block). b.value)) at ∙ ap Some value)

  -- what stands under the numbers, in order of the least contributors, are the editions that have the key
  pub kept-from_sorted : Ascends numbers → (sorted : List Edition) → IsPermutation found sorted → IsSorted edition_cmp sorted → sorted ≡ filter (has_key key) all
  kept-from_sorted up sorted moved by =
      let kept = filter (has_key key) all in
      let apart = once-in_resolution edition_join_laws edition_match_laws list all is.resolved in
      let once = AllPairs-permutation (λ x y. x ≢ y) (λ x y h e. h (sym e)) all (values_of (blocks_in blocks)) (IsPermutation-sym (values_of (blocks_in blocks)) all same) apart in
      let own = ordered-some (has_key key) list all is in
      let order : IsPermutation kept found =
      IsPermutation-from_members kept found (AllPairs-filter (λ x y. x ≢ y) (has_key key) all apart) (found-once blocks once numbers up) found-from_kept kept-from_found in
      one-ordered kept sorted kept (ordered-from_sorted kept kept sorted own.resolved (IsPermutation-trans kept found sorted order moved) by) own
