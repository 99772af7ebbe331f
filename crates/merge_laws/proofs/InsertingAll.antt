-- Values that are inserted one after the other into values that are apart, and what their insertions take.
use Rattle.std.proofs.Common.{◌≡◌, ℕ, ◌+◌, ◌*◌, ◌≤◌, Bool, true, cond, IsTrue, List, [], ◌∷◌, ◌++◌, Contains, append_assoc, append-nil, refl, sym, ◌∙◌, ap, subst, inl, inr, arith}
use Rattle.std.specs.Prelude.{count_by}
use Rattle.std.specs.List.Sorted.{IsPermutation}
use Rattle.std.proofs.Math.Nat.{le_trans, mul-le-mul_left}
use Rattle.std.proofs.lemmas.List.Elements.{Contains-append_left, Contains-append_right, Contains-append_cases}
use Rattle.std.proofs.lemmas.List.Sorted.{IsPermutation-sym, Contains-permutation, sum_by_popped, sum_by-IsPermutation}
use Rattle.merge_laws.specs.Reach.{near, reach}
use Rattle.merge_laws.specs.Reaches.{IsReachOfInsertion, IsReachOfInsertions}
use Rattle.merge_laws.specs.Resolution.{JoinLaws, MatchLaws, member, IsDominated, IsResolution, AreApart}
use Rattle.merge_laws.proofs.Existing.{resolution-of}
use Rattle.merge_laws.proofs.Inserting.{inserting_none, inserting_bound, near-above}
use Rattle.merge_laws.proofs.Places.{Contains-head}
use Rattle.merge_laws.proofs.Resolutions.{IsDominated-refl, IsDominated-trans, IsDominated-left, IsDominated-right, Derives-through, IsPermutation-from_resolutions, IsResolution-from_apart, IsResolution-through, IsResolution-push, same-from_dominating}
use Rattle.merge_laws.proofs.Resolving.{IsResolving, resolving_inserted, resolving_joined}

module _ {A : Type 0} {match : A → A → Bool} {merge : A → A → A} (join : JoinLaws merge) (laws : MatchLaws match merge) where
  -- values that are apart are their own resolution
  pub resolved-itself : (list : List A) → AreApart match list → IsResolution match merge list list
  resolved-itself list apart = IsResolution-from_apart join laws list list (λ e c. member c) (λ x c. (x, c, IsDominated-refl join laws x)) apart

  -- a list that has the same members has the same resolutions
  pub resolved-by_members : (I J E : List A) → ((x : A) → Contains I x → Contains J x) → ((x : A) → Contains J x → Contains I x) → IsResolution match merge J E → IsResolution match merge I E
  resolved-by_members I J E there back r =
      IsResolution-through join laws I J E (λ y c. member (back y c)) (λ x c. (x, there x c, IsDominated-refl join laws x)) r

  -- what resolves all that is done and left resolves the list
  pub resolved-on : (list left done all : List A) → IsResolving match merge list left done → IsResolution match merge (done ++ left) all → IsResolution match merge list all
  resolved-on list left done all s r =
      IsResolution-through join laws list (done ++ left) all
      (λ y c. elim (Contains-append_cases done left y c) [ inl d ↦ s.done_derives y d | inr l ↦ s.left_derives y l ])
      (λ x c. elim (s.covered x c) [
        | inl (y, cy, dy) ↦ (y, Contains-append_right done left y cy, dy)
        | inr (y, cy, dy) ↦ (y, Contains-append_left done left y cy, dy)
      ])
      r

  -- so what resolves the merge of a value and a member, and the other members, resolves all of them and the value
  pub resolved-merged : (list : List A) (value u : A) (rest all : List A) → AreApart match list → IsPermutation list (u ∷ rest) → IsTrue (match value u)
      → IsResolution match merge (rest ++ merge u value ∷ []) all → IsResolution match merge (list ++ value ∷ []) all
  resolved-merged list value u rest all apart p m =
      resolved-on (list ++ value ∷ []) (merge u value ∷ []) rest all
      (resolving_joined join laws (list ++ value ∷ []) [] list value u rest (resolving_inserted join laws list value apart) p m)

  -- a list beside more values resolves as its resolution beside them
  pub resolved-beside : (list start more view : List A) → IsResolution match merge list start → IsResolution match merge (start ++ more) view → IsResolution match merge (list ++ more) view
  resolved-beside list start more view one r =
      IsResolution-through join laws (list ++ more) (start ++ more) view
      (λ y c. elim (Contains-append_cases start more y c) [
        | inl old ↦ Derives-through join laws list (list ++ more) (λ x cx. member (Contains-append_left list more x cx)) y (one.derived y old)
        | inr new ↦ member (Contains-append_right list more y new)
      ])
      (λ x c. elim (Contains-append_cases list more x c) [
        | inl old ↦ (let (s, cs, ds) = one.covered x (member old) in (s, Contains-append_left start more s cs, ds))
        | inr new ↦ (x, Contains-append_right start more x new, IsDominated-refl join laws x)
      ])
      r

  module _ {is_near : A → A → Bool} where
    -- what an insertion into a view takes, for whichever resolution is meant
    pub insertion-paid : (list view : List A) (value : A) (number start now : ℕ) → IsResolution match merge list view
        → ((all : List A) (x : A) → IsResolution match merge (view ++ value ∷ []) all → Contains all x → IsDominated match merge value x → now ≤ start + reach match is_near view x)
        → IsReachOfInsertion match merge is_near list value number → now ≤ start + number
    insertion-paid list view value number start now resolved paid r =
        let order : IsPermutation view r.before = IsPermutation-from_resolutions join laws list view r.before resolved r.resolved in
        let back : IsPermutation r.before view = IsPermutation-sym view r.before order in
        let all : IsResolution match merge (view ++ value ∷ []) r.after =
        resolved-by_members (view ++ value ∷ []) (r.before ++ value ∷ []) r.after (moved-member view r.before order) (moved-member r.before view back) r.grown in
        let most = paid r.after r.by all r.stands r.dominates in
        let matched : count_by (λ w. match w r.by) r.before ≡ count_by (λ w. match w r.by) view = sum_by-IsPermutation (λ w. cond (match w r.by) 1 0) view r.before order in
        let around : near is_near r.before r.by ≡ near is_near view r.by = sum_by-IsPermutation (λ w. cond (is_near w r.by) 1 0) view r.before order in
        let is : number ≡ reach match is_near view r.by = r.is ∙ ap (λ a. (a + 1) * near is_near r.before r.by) matched ∙ ap (λ a. (count_by (λ w. match w r.by) view + 1) * a) around in
        subst (λ n. now ≤ start + n) (sym is) most
      where
        moved-member : (xs ys : List A) → IsPermutation xs ys → (x : A) → Contains (xs ++ value ∷ []) x → Contains (ys ++ value ∷ []) x
        moved-member xs ys order x c = elim (Contains-append_cases xs (value ∷ []) x c) [
          | inl old ↦ Contains-append_left ys (value ∷ []) x (Contains-permutation xs ys x order old)
          | inr mine ↦ Contains-append_right ys (value ∷ []) x mine
        ]

module _ {A : Type 0} {match : A → A → Bool} {merge : A → A → A} {is_near : A → A → Bool} (join : JoinLaws merge) (laws : MatchLaws match merge) (grows : (w x y : A) → IsTrue (is_near w x) → IsTrue (is_near w (merge x y))) where
  -- one look among the list is within the reach of the insertion
  pub looked-within : (list : List A) (value : A) (start now : ℕ) → AreApart match list → now ≤ start + near is_near list value
      → (all : List A) (x : A) → IsResolution match merge (list ++ value ∷ []) all → Contains all x → IsDominated match merge value x → now ≤ start + reach match is_near list x
  looked-within list value start now apart paid =
      inserting_bound join laws grows list value start start value list now (inserting_none join laws grows list value start apart) paid

  -- a look that finds u, and then the insertion of the merge into the rest, are within the reach of the insertion into the list
  pub joined-within : (list rest : List A) (value u : A) (start now then' : ℕ) → AreApart match list → IsPermutation list (u ∷ rest) → IsTrue (match value u) → now ≤ start + near is_near list value
      → ((all : List A) (x : A) → IsResolution match merge (rest ++ merge u value ∷ []) all → Contains all x → IsDominated match merge (merge u value) x → then' ≤ now + reach match is_near rest x)
      → (all : List A) (x : A) → IsResolution match merge (list ++ value ∷ []) all → Contains all x → IsDominated match merge value x → then' ≤ start + reach match is_near list x
  joined-within list rest value u start now then' apart p m looked paid all x r c d =
      let (other, ro) = resolution-of join laws (rest ++ merge u value ∷ []) in
      let same = resolved-merged join laws list value u rest other apart p m ro in
      let there : Contains other x = Contains-permutation all other x (IsPermutation-from_resolutions join laws (list ++ value ∷ []) all other r same) c in
      let (y, cy, dy) = ro.covered (merge u value) (member (Contains-append_right rest (merge u value ∷ []) (merge u value) (Contains-head (merge u value) []))) in
      let one : y ≡ x = same-from_dominating join laws (list ++ value ∷ []) other same value y x cy there (IsDominated-trans join laws value (merge u value) y (IsDominated-right join laws u value) dy) d in
      let up : IsDominated match merge (merge u value) x = subst (IsDominated match merge (merge u value)) one dy in
      let hit : match u x ≡ true = (IsDominated-trans join laws u (merge u value) x (IsDominated-left join laws u value) up).matches in
      let matched : count_by (λ w. match w x) rest + cond (match u x) 1 0 ≡ count_by (λ w. match w x) list = sum_by_popped (λ w. cond (match w x) 1 0) u list rest p in
      let around : near is_near rest x + cond (is_near u x) 1 0 ≡ near is_near list x = sum_by_popped (λ w. cond (is_near w x) 1 0) u list rest p in
      both (count_by (λ w. match w x) rest) (count_by (λ w. match w x) list) (near is_near list value) (near is_near rest x) (near is_near list x) (cond (is_near u x) 1 0) (rw hit at matched) around
      (near-above join laws grows list value x d) looked (paid other x ro there up)
    where
      both : (a b m s t i : ℕ) → a + 1 ≡ b → s + i ≡ t → m ≤ t → now ≤ start + m → then' ≤ now + (a + 1) * s → then' ≤ start + (b + 1) * t
      both a b m s t i more fewer most first later =
          let less : (a + 1) * s ≤ (a + 1) * t = mul-le-mul_left (a + 1) (let small : s ≤ t = omega arith in small) in
          rw (← more) (omega arith)

-- some of the values were inserted into the view that stood at first, and the others are to come
pub record ComesOn {A : Type 0} (match : A → A → Bool) (merge : A → A → A) (is_near : A → A → Bool) (start values view done rest : List A) (begun steps : ℕ) : Type 0 where
  pub split : done ++ rest ≡ values
  pub resolved : IsResolution match merge (start ++ done) view
  pub paid : (list : List A) (number : ℕ) → IsResolution match merge list start → IsReachOfInsertions match merge is_near list values number
      → (left : ℕ) × IsReachOfInsertions match merge is_near (list ++ done) rest left × (steps + left ≤ begun + number)

module _ {A : Type 0} {match : A → A → Bool} {merge : A → A → A} {is_near : A → A → Bool} (join : JoinLaws merge) (laws : MatchLaws match merge) where
  pub comes-begin : (start values : List A) (begun : ℕ) → AreApart match start → ComesOn match merge is_near start values start [] values begun begun
  comes-begin start values begun apart = record {
    split = refl;
    resolved = subst (λ list. IsResolution match merge list start) (sym (append-nil start)) (resolved-itself join laws start apart);
    paid = λ list number one r. (number, subst (λ all. IsReachOfInsertions match merge is_near all values number) (sym (append-nil list)) r, omega arith);
  }

  module _ {start values view done rest : List A} {begun steps : ℕ} (g : ComesOn match merge is_near start values view done rest begun steps) where
    module _ (value : A) (rest' : List A) (next : rest ≡ value ∷ rest') (steps' : ℕ)
        (cost : (all : List A) (x : A) → IsResolution match merge (view ++ value ∷ []) all → Contains all x → IsDominated match merge value x
        → steps' ≤ steps + reach match is_near view x) where
      paid-next : (list : List A) (number : ℕ) → IsResolution match merge list start → IsReachOfInsertions match merge is_near list values number
          → (left : ℕ) × IsReachOfInsertions match merge is_near (list ++ (done ++ value ∷ [])) rest' left × (steps' + left ≤ begun + number)
      paid-next list number one r =
          let (left, coming, le) = g.paid list number one r in
          let (first, then, reach_is, more, sum) = subst (λ (xs : List A). IsReachOfInsertions match merge is_near (list ++ done) xs left) next coming in
          let spent = insertion-paid join laws (list ++ done) view value first steps steps' (resolved-beside join laws list start done view one g.resolved) cost reach_is in
          (then, subst (λ all. IsReachOfInsertions match merge is_near all rest' then) (append_assoc list done (value ∷ [])) more, omega arith)

      pub comes-paid : (list : List A) (number : ℕ) → IsResolution match merge list start → IsReachOfInsertions match merge is_near list values number → steps' ≤ begun + number
      comes-paid list number one r = let (left, coming, le) = paid-next list number one r in omega arith

      pub comes-next : (view' : List A) → IsResolution match merge (view ++ value ∷ []) view' → ComesOn match merge is_near start values view' (done ++ value ∷ []) rest' begun steps'
      comes-next view' r = record {
        split = append_assoc done (value ∷ []) rest' ∙ ap (λ xs. done ++ xs) (sym next) ∙ g.split;
        resolved = subst (λ list. IsResolution match merge list view') (append_assoc start done (value ∷ []))
            (IsResolution-push join laws (start ++ done) view view' value g.resolved r);
        paid = paid-next;
      }

    module _ (none : rest ≡ []) where
      pub comes-all : IsResolution match merge (start ++ values) view
      comes-all = subst (λ xs. IsResolution match merge (start ++ xs) view) (sym (append-nil done) ∙ ap (λ xs. done ++ xs) (sym none) ∙ g.split) g.resolved

      pub comes-paid_all : (list : List A) (number : ℕ) → IsResolution match merge list start → IsReachOfInsertions match merge is_near list values number → steps ≤ begun + number
      comes-paid_all list number one r = let (left, coming, le) = g.paid list number one r in omega arith
