-- Views of blocks and a change, when a member is taken out.
use Rattle.std.proofs.Common.{◌≡◌, ◌≢◌, ℕ, ◌+◌, ◌≤◌, Bool, cond, IsTrue, List, [], ◌∷◌, ◌++◌, Option, None, Some, get_or, append_assoc, refl, sym, ◌∙◌, ap, subst, inl, inr, arith}
use Rattle.std.specs.Prelude.{All, AllPairs, Contains, IsSome, count_by}
use Rattle.std.specs.List.Sorted.{IsPermutation}
use Rattle.std.proofs.lemmas.List.{append-nil, get_or-map, length-map, map-append}
use Rattle.std.proofs.lemmas.List.Elements.{All-append, All-contains, All-map, Contains-append_left, Contains-append_right, Contains-get_or, Contains-push_cases}
use Rattle.std.proofs.lemmas.List.Quantifiers.{all_pairs_push}
use Rattle.std.proofs.lemmas.List.Sorted.{Contains-permutation, IsPermutation-sym, IsPermutation-append_left, IsPermutation-append_right, IsPermutation-trans, IsPermutation-middle, IsPermutation-map}
use Rattle.std.proofs.lemmas.List.Sums.{sum_by-cons, sum_by-append}
use Rattle.merge_laws.specs.Resolution.{JoinLaws, MatchLaws, IsDominated, AreApart, DoNotMatch}
use Rattle.merge_laws.specs.Reach.{near}
use Rattle.merge_laws.proofs.Places.{All-from_members, AllPairs-none, AllPairs-permutation, AllPairs-rest, Contains-tail}
use Rattle.merge_laws.proofs.Resolutions.{IsDominated-left}
use Rattle.swoosh_resolver.specs.Tables.{AreFree, Entry, block_at, blocks_in, values_of}
use Rattle.swoosh_resolver.specs.Changes.{without, view_of, CanStand, Fits, IsClosed, StandApart}
use Rattle.swoosh_resolver.specs.Insertions.{IsMatchAt, MergesMatch, Merges, TakesMatch}
use Rattle.swoosh_resolver.proofs.Unmerged.{unmerged_kept, unmerged_fresh}
use Rattle.swoosh_resolver.proofs.Places.{without-push, block-closed, block-from_open, taken-from_set}

-- a test of values counts the entries whose values pass it
pub count-map : {R K : Type 0} (test : R → Bool) (entries : List (Entry R K)) → count_by test (values_of entries) ≡ count_by (λ e. test e.value) entries
count-map {R} {K} test [] = refl
count-map {R} {K} test (e ∷ es) =
    let more = sum_by-cons (λ v. cond (test v) 1 0) e.value (values_of es) in
    let more' = sum_by-cons (λ (e : Entry R K). cond (test e.value) 1 0) e es in
    let rest = count-map test es in
    omega arith

module _ {R K : Type 0} (blocks : List (Option (Entry R K))) (closed : List ℕ) (opened : List (Entry R K)) where
  -- an open block is closed
  pub taken-kept : (n : ℕ) (e : Entry R K) → block_at (without blocks closed) n ≡ Some e → IsPermutation (view_of blocks closed opened) (e.value ∷ view_of blocks (closed ++ n ∷ []) opened)
  taken-kept n e stands =
      let rest = blocks_in (without blocks (closed ++ n ∷ [])) in
      let one : IsPermutation (blocks_in (without blocks closed)) (e ∷ rest) = rw (without-push blocks closed n) (taken-from_set (without blocks closed) n e stands) in
      IsPermutation-map (λ (e : Entry R K). e.value) (blocks_in (without blocks closed) ++ opened) (e ∷ rest ++ opened)
      (IsPermutation-append_left opened (blocks_in (without blocks closed)) (e ∷ rest) one)

  -- an opened value is taken back
  pub taken-fresh : (e : Entry R K) (rest : List (Entry R K)) → IsPermutation opened (e ∷ rest) → IsPermutation (view_of blocks closed opened) (e.value ∷ view_of blocks closed rest)
  taken-fresh e rest taken =
      let left = blocks_in (without blocks closed) in
      IsPermutation-map (λ (e : Entry R K). e.value) (left ++ opened) (e ∷ left ++ rest)
      (IsPermutation-trans (left ++ opened) (left ++ e ∷ rest) (e ∷ left ++ rest)
      (IsPermutation-append_right left opened (e ∷ rest) taken)
      (IsPermutation-middle left e rest))

  module _ {match : R → R → Bool} (fits : Fits match blocks closed opened) where
    apart-taken : (v : R) (rest : List R) → IsPermutation (view_of blocks closed opened) (v ∷ rest) → AreApart match rest
    apart-taken v rest p =
        AllPairs-rest (DoNotMatch match) v rest
        (AllPairs-permutation (DoNotMatch match) (λ x y h. (h.1, h.0)) (view_of blocks closed opened) (v ∷ rest) p fits.apart)

    pub fits-kept : (n : ℕ) (e : Entry R K) → block_at (without blocks closed) n ≡ Some e → Fits match blocks (closed ++ n ∷ []) opened
    fits-kept n e stands = record {
      distinct = all_pairs_push (λ m n. m ≢ n) closed n fits.distinct
          (λ k d kl same. let none : block_at (without blocks closed) n ≡ None = block-closed closed blocks n (subst (Contains closed) same (Contains-get_or closed k d kl)) in cc);
      named = λ m c. elim (Contains-push_cases closed n m c) as (λ _. IsSome (block_at blocks m)) [
        | inl old ↦ fits.named m old
        | inr same ↦ subst (λ m. IsSome (block_at blocks m)) same (let there = block-from_open closed blocks n e stands in rw there refl)
      ];
      apart = apart-taken e.value (view_of blocks (closed ++ n ∷ []) opened) (taken-kept n e stands);
      based = λ f b c is. (let old = fits.based f b c is in record { closes = Contains-append_left closed (n ∷ []) b.number old.closes; is = old.is });
      alone = fits.alone;
    }

    -- the values stand on blocks alone in whichever order
    pub alone-taken : (e : Entry R K) (rest : List (Entry R K)) → IsPermutation opened (e ∷ rest) → AllPairs StandApart (e ∷ rest)
    alone-taken e rest taken = AllPairs-permutation StandApart (λ x y h a b is is' same. h b a is' is (sym same)) opened (e ∷ rest) taken fits.alone

    pub fits-fresh : (e : Entry R K) (rest : List (Entry R K)) → IsPermutation opened (e ∷ rest) → Fits match blocks closed rest
    fits-fresh e rest taken = record {
      distinct = fits.distinct;
      named = fits.named;
      apart = apart-taken e.value (view_of blocks closed rest) (taken-fresh e rest taken);
      based = λ f b c is. fits.based f b (Contains-permutation (e ∷ rest) opened f (IsPermutation-sym opened (e ∷ rest) taken) (Contains-tail e rest f c)) is;
      alone = AllPairs-rest StandApart e rest (alone-taken e rest taken);
    }

  -- the members of the view that are near to a value are blocks, or opened values
  pub near-view : (is_near : R → R → Bool) (x : R) → near is_near (view_of blocks closed opened) x ≡ count_by (λ e. is_near e.value x) (blocks_in (without blocks closed)) + count_by (λ e. is_near e.value x) opened
  near-view is_near x =
      count-map (λ w. is_near w x) (blocks_in (without blocks closed) ++ opened)
      ∙ sum_by-append (λ (e : Entry R K). cond (is_near e.value x) 1 0) (blocks_in (without blocks closed)) opened

  -- the tests among the blocks, and then those among the opened values, are at most as many as members of the view are near
  pub spent-kept : (is_near : R → R → Bool) (x : R) (start now : ℕ) → now ≤ start + count_by (λ e. is_near e.value x) (blocks_in (without blocks closed)) → now ≤ start + near is_near (view_of blocks closed opened) x
  spent-kept is_near x start now paid = rw (near-view is_near x) (front start now (count_by (λ e. is_near e.value x) (blocks_in (without blocks closed))) (count_by (λ e. is_near e.value x) opened) paid)
    where
      front : (start now a b : ℕ) → now ≤ start + a → now ≤ start + (a + b)
      front start now a b paid = omega arith

  pub spent-fresh : (is_near : R → R → Bool) (x : R) (start now then' : ℕ) → now ≤ start + count_by (λ e. is_near e.value x) (blocks_in (without blocks closed)) → then' ≤ now + count_by (λ e. is_near e.value x) opened → then' ≤ start + near is_near (view_of blocks closed opened) x
  spent-fresh is_near x start now then' paid more =
      rw (near-view is_near x) (both start now then' (count_by (λ e. is_near e.value x) (blocks_in (without blocks closed))) (count_by (λ e. is_near e.value x) opened) paid more)
    where
      both : (start now then' a b : ℕ) → now ≤ start + a → then' ≤ now + b → then' ≤ start + (a + b)
      both start now then' a b paid more = omega arith

  -- what holds of the blocks and of the opened values holds of the view
  pub All-view : (P : R → Type 0) → All (λ e. P e.value) (blocks_in (without blocks closed)) → All (λ e. P e.value) opened → All P (view_of blocks closed opened)
  All-view P kept fresh =
      All-map P (λ (e : Entry R K). e.value) (blocks_in (without blocks closed) ++ opened)
      (All-append (λ (e : Entry R K). P e.value) (blocks_in (without blocks closed)) opened kept fresh)

  -- what holds of the view holds of the blocks and of the opened values
  pub All-of_view : (P : R → Type 0) → All P (view_of blocks closed opened) → All (λ e. P e.value) (blocks_in (without blocks closed)) × All (λ e. P e.value) opened
  All-of_view P all =
      let left = blocks_in (without blocks closed) in
      let at : (e : Entry R K) → Contains (left ++ opened) e → P e.value = λ e (i, il, is).
      All-contains P (view_of blocks closed opened) e.value all
      (i, let len = length-map (left ++ opened) (λ (e : Entry R K). e.value) in omega arith, get_or-map (λ (e : Entry R K). e.value) (left ++ opened) i e e.value il ∙ ap (λ (z : Entry R K). z.value) is) in (
        All-from_members (λ (e : Entry R K). P e.value) left (λ e c. at e (Contains-append_left left opened e c)),
        All-from_members (λ (e : Entry R K). P e.value) opened (λ e c. at e (Contains-append_right left opened e c)),
      )

  -- the value is merged with an open block
  pub merges-kept : {match : R → R → Bool} {merge : R → R → R} (join : JoinLaws merge) (laws : MatchLaws match merge) (value block merged : R) (n : ℕ) → IsMatchAt match (without blocks closed) value n block → merged ≡ merge block value → Merges match merge blocks closed opened value (closed ++ n ∷ []) opened merged
  merges-kept {match} {merge} join laws value block merged n m is = record {
    by = m.by.value;
    taken = taken-kept n m.by m.stands;
    matches = subst (λ b. IsTrue (match value b)) m.is m.matches;
    is = rw (← m.is) is;
    others = unmerged_kept blocks closed opened n m.by merged (block-from_open closed blocks n m.by m.stands)
        (subst (IsDominated match merge m.by.value) (sym (rw m.is at is)) (IsDominated-left join laws m.by.value value));
  }

  -- the value is merged with an opened value
  pub merges-fresh : {match : R → R → Bool} {merge : R → R → R} (join : JoinLaws merge) (laws : MatchLaws match merge) (value merged : R) (opened' : List (Entry R K)) → MergesMatch match merge opened value opened' merged → Merges match merge blocks closed opened value closed opened' merged
  merges-fresh {match} {merge} join laws value merged opened' m = record {
    by = m.by.value;
    taken = taken-fresh m.by opened' m.taken;
    matches = m.matches;
    is = m.is;
    others = unmerged_fresh blocks closed opened opened' m.by merged m.taken (subst (IsDominated match merge m.by.value) (sym m.is) (IsDominated-left join laws m.by.value value));
  }

  pub merges-taken : {match : R → R → Bool} {merge : R → R → R} (join : JoinLaws merge) (laws : MatchLaws match merge) (value merged : R) (opened' : List (Entry R K)) (by : Entry R K) → TakesMatch match opened value opened' by → merged ≡ merge by.value value
      → Merges match merge blocks closed opened value closed opened' merged
  merges-taken join laws value merged opened' by t is = merges-fresh join laws value merged opened' (record { by = by; taken = t.taken; matches = t.matches; is = is })

  -- one value more is opened
  pub view-push : (e : Entry R K) → view_of blocks closed (opened ++ e ∷ []) ≡ view_of blocks closed opened ++ e.value ∷ []
  view-push e =
      ap values_of (sym (append_assoc (blocks_in (without blocks closed)) opened (e ∷ [])))
      ∙ map-append (λ (e : Entry R K). e.value) (blocks_in (without blocks closed) ++ opened) (e ∷ [])

  pub fits-push : {match : R → R → Bool} → Fits match blocks closed opened → (e : Entry R K) → CanStand match blocks closed opened e.base → AreApart match (view_of blocks closed opened ++ e.value ∷ []) → Fits match blocks closed (opened ++ e ∷ [])
  fits-push {match} fits e can apart = record {
    distinct = fits.distinct;
    named = fits.named;
    apart = subst (AreApart match) (sym (view-push e)) apart;
    based = λ f b c is. elim (Contains-push_cases opened e f c) as (λ _. IsClosed blocks closed b) [
      | inl before ↦ fits.based f b before is
      | inr same ↦ can.closes b (subst (λ (z : Entry R K). z.base ≡ Some b) (sym same) is)
    ];
    alone = all_pairs_push StandApart opened e fits.alone (λ k d kl a b is is'. can.free b is' (get_or opened k d) a (Contains-get_or opened k d kl) is);
  }

-- a view is told by the values that are opened
pub view-same : {R P : Type 0} (left : List (Entry R P)) (opened opened' : List (Entry R P)) → values_of opened ≡ values_of opened' → values_of (left ++ opened) ≡ values_of (left ++ opened')
view-same {R} {P} left opened opened' same =
    map-append (λ (e : Entry R P). e.value) left opened ∙ ap (λ vs. values_of left ++ vs) same ∙ sym (map-append (λ (e : Entry R P). e.value) left opened')

-- so is the fit of values that stand on no block
pub fits-whole : {R P : Type 0} {match : R → R → Bool} (blocks : List (Option (Entry R P))) (closed : List ℕ) (opened opened' : List (Entry R P)) → values_of opened ≡ values_of opened' → AreFree opened' → Fits match blocks closed opened → Fits match blocks closed opened'
fits-whole {R} {P} {match} blocks closed opened opened' same free fits = record {
  distinct = fits.distinct;
  named = fits.named;
  apart = subst (AreApart match) (view-same (blocks_in (without blocks closed)) opened opened' same) fits.apart;
  based = λ e b c is. (let none = free e c in absurd cc);
  alone = λ i j d ij jl a b is is'. (let none = free (get_or opened' i d) (Contains-get_or opened' i d (omega arith)) in absurd cc);
}

-- a change of nothing fits
pub fits-none : {R P : Type 0} {match : R → R → Bool} (blocks : List (Option (Entry R P))) → AreApart match (values_of (blocks_in blocks)) → Fits match blocks [] []
fits-none {match} blocks apart = record {
  distinct = AllPairs-none (λ m n. m ≢ n);
  named = λ n c. let none = c.1 in absurd (omega arith);
  apart = subst (AreApart match) (sym (ap values_of (append-nil (blocks_in blocks)))) apart;
  based = λ e b (k, kl, is) is'. absurd (omega arith);
  alone = AllPairs-none StandApart;
}
