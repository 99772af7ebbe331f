-- How many match tests an insertion into values that are apart takes, if each look tests only values that are near to the value
-- at hand.
use Rattle.std.proofs.Common.{◌≡◌, ℕ, ◌+◌, ◌-◌, ◌*◌, ◌≤◌, Bool, true, false, cond, IsTrue, List, [], ◌∷◌, ◌++◌, length, refl, subst, arith}
use Rattle.std.specs.Prelude.{Contains, count_by}
use Rattle.std.specs.List.Sorted.{IsPermutation}
use Rattle.std.proofs.lemmas.List.Sorted.{length_permutation, sum_by_popped}
use Rattle.std.proofs.lemmas.List.Sums.{sum_by-le-sum_by}
use Rattle.std.proofs.Math.Nat.{le_trans, mul-le-mul_left}
use Rattle.merge_laws.specs.Resolution.{JoinLaws, MatchLaws, IsDominated, IsResolution, AreApart}
use Rattle.merge_laws.specs.Reach.{near, reach}
use Rattle.merge_laws.proofs.Places.{Contains-head}
use Rattle.merge_laws.proofs.Resolutions.{IsDominated-refl, IsDominated-trans, IsDominated-left, IsDominated-right, same-from_dominating}
use Rattle.merge_laws.proofs.Resolving.{IsResolving, resolving_inserted, resolving_joined}

-- An insertion of v into list, on its way: value is what v came to, and done are the members that are not in it. Whatever
-- dominates value, at most near of it was tested for each member that was merged, and it matches the merged members.
pub record IsInserting {A : Type 0} (match : A → A → Bool) (merge : A → A → A) (is_near : A → A → Bool) (list : List A) (v : A) (start now : ℕ) (value : A) (done : List A) : Type 0 where
  pub resolving : IsResolving match merge (list ++ v ∷ []) (value ∷ []) done
  pub above : IsDominated match merge v value
  pub fewer : length done ≤ length list
  pub spent : (x : A) → IsDominated match merge value x → now ≤ start + (length list - length done) * near is_near list x
  pub matched : (x : A) → IsDominated match merge value x → count_by (λ w. match w x) list ≡ (length list - length done) + count_by (λ w. match w x) done
  pub nearer : (x : A) → near is_near done x ≤ near is_near list x

-- a look that pays at most k for one member more
paid-more : (n a b start now then' m k : ℕ) → b + 1 ≡ a → a ≤ n → now ≤ start + (n - a) * k → then' ≤ now + m → m ≤ k → then' ≤ start + (n - b) * k
paid-more n a b start now then' m k shorter fewer spent paid most =
    let more : n - b ≡ (n - a) + 1 = omega arith in
    rw more (omega arith)

-- the last look, where the members merged are among c that match
paid-last : (joined still c start now then' m k : ℕ) → c ≡ joined + still → now ≤ start + joined * k → then' ≤ now + m → m ≤ k → then' ≤ start + (c + 1) * k
paid-last joined still c start now then' m k total spent paid most = rw total (omega arith)

-- a test that another implies counts no less
cond-le : (a b : Bool) → (IsTrue a → IsTrue b) → cond a 1 0 ≤ cond b 1 0
cond-le false b h = omega arith
cond-le true b h = rw (h refl) (omega arith)

module _ {A : Type 0} {match : A → A → Bool} {merge : A → A → A} {is_near : A → A → Bool} (join : JoinLaws merge) (laws : MatchLaws match merge) (grows : (w x y : A) → IsTrue (is_near w x) → IsTrue (is_near w (merge x y))) where
  -- what is near to a value is near to what dominates it
  pub near-dominating : (w x y : A) → IsDominated match merge x y → IsTrue (is_near w x) → IsTrue (is_near w y)
  near-dominating w x y d h = rw d.absorbed at (grows w x y h)

  pub near-above : (list : List A) (x y : A) → IsDominated match merge x y → near is_near list x ≤ near is_near list y
  near-above list x y d = sum_by-le-sum_by (λ w. cond (is_near w x) 1 0) (λ w. cond (is_near w y) 1 0) list (λ w. cond-le (is_near w x) (is_near w y) (near-dominating w x y d))

  pub inserting_none : (list : List A) (v : A) (start : ℕ) → AreApart match list → IsInserting match merge is_near list v start start v list
  inserting_none list v start apart = record {
    resolving = resolving_inserted join laws list v apart;
    above = IsDominated-refl join laws v;
    fewer = omega arith;
    spent = λ x d. omega arith;
    matched = λ x d. omega arith;
    nearer = λ x. omega arith;
  }

  -- a look that finds u, which matches the value
  pub inserting_joined : (list : List A) (v : A) (start now : ℕ) (value : A) (done : List A) (then' : ℕ) (u : A) (rest : List A) → IsInserting match merge is_near list v start now value done → then' ≤ now + near is_near done value → IsPermutation done (u ∷ rest) → IsTrue (match value u) → IsInserting match merge is_near list v start then' (merge u value) rest
  inserting_joined list v start now value done then' u rest s paid p m =
      let shorter : length rest + 1 ≡ length done = let l = length_permutation done (u ∷ rest) p in omega arith in
      let up : IsDominated match merge value (merge u value) = IsDominated-right join laws u value in
      record {
        resolving = resolving_joined join laws (list ++ v ∷ []) [] done value u rest s.resolving p m;
        above = IsDominated-trans join laws v value (merge u value) s.above up;
        fewer = let f = s.fewer in omega arith;
        spent = λ x d.
            let e : IsDominated match merge value x = IsDominated-trans join laws value (merge u value) x up d in
            let most : near is_near done value ≤ near is_near list x = le_trans (near-above done value x e) (s.nearer x) in
            paid-more (length list) (length done) (length rest) start now then' (near is_near done value) (near is_near list x) shorter s.fewer (s.spent x e) paid most;
        matched = λ x d.
            let e : IsDominated match merge value x = IsDominated-trans join laws value (merge u value) x up d in
            let counted : count_by (λ w. match w x) rest + cond (match u x) 1 0 ≡ count_by (λ w. match w x) done = sum_by_popped (λ w. cond (match w x) 1 0) u done rest p in
            let one : cond {A = ℕ} (match u x) 1 0 ≡ 1 = let h : match u x ≡ true = (IsDominated-trans join laws u (merge u value) x (IsDominated-left join laws u value) d).matches in rw h in
            let before = s.matched x e in
            let f = s.fewer in
            omega arith;
        nearer = λ x.
            let counted : near is_near rest x + cond (is_near u x) 1 0 ≡ near is_near done x = sum_by_popped (λ w. cond (is_near w x) 1 0) u done rest p in
            let before = s.nearer x in
            omega arith;
      }

  -- after the last look, for whichever resolution is meant and whichever member of it dominates the value
  pub inserting_bound : (list : List A) (v : A) (start now : ℕ) (value : A) (done : List A) (then' : ℕ) → IsInserting match merge is_near list v start now value done → then' ≤ now + near is_near done value → (all : List A) (x : A) → IsResolution match merge (list ++ v ∷ []) all → Contains all x → IsDominated match merge v x → then' ≤ start + reach match is_near list x
  inserting_bound list v start now value done then' s paid all x r c d =
      let (y, cy, dy) = r.covered value (s.resolving.left_derives value (Contains-head value [])) in
      let one : y ≡ x = same-from_dominating join laws (list ++ v ∷ []) all r v y x cy c (IsDominated-trans join laws v value y s.above dy) d in
      let up : IsDominated match merge value x = subst (IsDominated match merge value) one dy in
      paid-last (length list - length done) (count_by (λ w. match w x) done) (count_by (λ w. match w x) list) start now then' (near is_near done value) (near is_near list x)
      (s.matched x up) (s.spent x up) paid (le_trans (near-above done value x up) (s.nearer x))

-- where what one test calls near the other does too, the reach by the one is at most that by the other
module _ {A : Type 0} (match is_near is_around : A → A → Bool) (wider : (w x : A) → IsTrue (is_near w x) → IsTrue (is_around w x)) (list : List A) (x : A) where
  pub near-wider : near is_near list x ≤ near is_around list x
  near-wider = sum_by-le-sum_by (λ w. cond (is_near w x) 1 0) (λ w. cond (is_around w x) 1 0) list (λ w. cond-le (is_near w x) (is_around w x) (wider w x))

  pub reach-wider : reach match is_near list x ≤ reach match is_around list x
  reach-wider = mul-le-mul_left (count_by (λ w. match w x) list + 1) near-wider
