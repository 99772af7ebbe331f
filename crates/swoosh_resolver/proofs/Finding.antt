-- Opened values that are found by their own keys, or by the numbers on which they stand.
use Rattle.std.proofs.Common.{Vec, Global, ◌≡◌, ℕ, zero, suc, ◌+◌, ◌<◌, Bool, true, List, [], ◌∷◌, ◌++◌, Option, Some, Result, Ok, Err, IfOk, length, refl, sym, ◌∙◌, ap, subst, inl, inr, arith}
use Rattle.std.specs.Prelude.{◌↔◌, ◌⊎◌, ◌==◌, Contains, map}
use Rattle.std.proofs.lemmas.Bool.Decides.{nat_tests}
use Rattle.std.proofs.lemmas.List.{nil_from_length}
use Rattle.std.proofs.lemmas.List.Elements.{Contains-append_left, Contains-push, Contains-push_cases}
use Rattle.feature_index.specs.Postings.{Ascends, Posting, numbers_of}
use Rattle.swoosh_resolver.specs.Tables.{Entry, ArePosted, Has, HasOwn, block_at}
use Rattle.swoosh_resolver.specs.Looks.{IsFound, IsLook, IsUnder, StandsOn}

-- the places are those of the members of the row of which the fact holds
pub record AreFound {X : Type 0} (fact : X → Type 0) (row : List X) (places : List ℕ) : Type 0 where
  pub members : (n : ℕ) → Contains places n ↔ ((e : X) × (block_at (map Some row) n ≡ Some e) × fact e)

module _ {X : Type 0} (fact : X → Type 0) where
  at-last : (row : List X) (x : X) → block_at (map Some (row ++ x ∷ [])) (length row) ≡ Some x
  at-last [] x = refl
  at-last (y ∷ ys) x = at-last ys x

  at-before : (row : List X) (x : X) (n : ℕ) → n < length row → block_at (map Some (row ++ x ∷ [])) n ≡ block_at (map Some row) n
  at-before [] x n h = absurd (omega arith)
  at-before (y ∷ ys) x zero h = refl
  at-before (y ∷ ys) x (suc n) h = at-before ys x n (omega arith)

  at-past : (row : List X) (n : ℕ) (e : X) → block_at (map Some row) n ≡ Some e → n < length row
  at-past [] n e is = absurd cc
  at-past (y ∷ ys) zero e is = omega arith
  at-past (y ∷ ys) (suc n) e is = let less = at-past ys n e is in omega arith

  at-now : (row : List X) (x : X) (n : ℕ) (e : X) → block_at (map Some (row ++ x ∷ [])) n ≡ Some e → (block_at (map Some row) n ≡ Some e) ⊎ ((n ≡ length row) × (x ≡ e))
  at-now [] x zero e is = inr (refl, cc)
  at-now [] x (suc n) e is = absurd cc
  at-now (y ∷ ys) x zero e is = inl is
  at-now (y ∷ ys) x (suc n) e is = elim (at-now ys x n e is) as (λ _. (block_at (map Some (y ∷ ys)) (suc n) ≡ Some e) ⊎ ((suc n ≡ length (y ∷ ys)) × (x ≡ e))) [
    | inl before ↦ inl before
    | inr (last, same) ↦ inr (omega arith, same)
  ]

  pub found_none : AreFound fact [] []
  found_none = record { members = λ n. (λ (i, il, e). absurd (omega arith), λ (e, at, f). absurd cc) }

  -- of no member the fact holds
  pub nothing-found : ((e : X) → fact e → ⊥) → (row : List X) → AreFound fact row []
  nothing-found none row = record { members = λ n. (λ (i, il, e). absurd (omega arith), λ (e, at, f). absurd (none e f)) }

  module _ (row : List X) (places : List ℕ) (x : X) (so_far : AreFound fact row places) where
    pub found_more : fact x → AreFound fact (row ++ x ∷ []) (places ++ length row ∷ [])
    found_more holds = record {
      members = λ n. (
        λ c. elim (Contains-push_cases places (length row) n c) as (λ _. (e : X) × (block_at (map Some (row ++ x ∷ [])) n ≡ Some e) × fact e) [
          | inl before ↦ (let (e, at, f) = (so_far.members n).0 before in (e, at-before row x n (at-past row n e at) ∙ at, f))
          | inr same ↦ (x, subst (λ m. block_at (map Some (row ++ x ∷ [])) m ≡ Some x) same (at-last row x), holds)
        ],
        λ (e, at, f). elim (at-now row x n e at) as (λ _. Contains (places ++ length row ∷ []) n) [
          | inl before ↦ Contains-append_left places (length row ∷ []) n ((so_far.members n).1 (e, before, f))
          | inr (last, same) ↦ subst (Contains (places ++ length row ∷ [])) (sym last) (Contains-push places (length row))
        ],
      );
    }

    pub found_skipped : (fact x → ⊥) → AreFound fact (row ++ x ∷ []) places
    found_skipped out = record {
      members = λ n. (
        λ c. (let (e, at, f) = (so_far.members n).0 c in (e, at-before row x n (at-past row n e at) ∙ at, f)),
        λ (e, at, f). elim (at-now row x n e at) as (λ _. Contains places n) [
          | inl before ↦ (so_far.members n).1 (e, before, f)
          | inr (last, same) ↦ absurd (out (subst fact (sym same) f))
        ],
      );
    }

-- a number that passes the test is 0
zero-from_test : (n : ℕ) → (n == 0) ≡ true → n ≡ 0
zero-from_test n h = grind (arith, nat_tests)

-- a list that passes the test has no members
pub empty-from_test : (xs : List ℕ) → (length xs == 0) ≡ true → xs ≡ []
empty-from_test xs h = nil_from_length xs (zero-from_test (length xs) h)

-- on no number stands a value
pub nothing-on : {R K : Type 0} (numbers : List ℕ) → numbers ≡ [] → (e : Entry R K) → StandsOn numbers e → ⊥
nothing-on numbers none e (b, is, (i, il, at)) = let len = ap length none in omega arith

-- by their own keys, and by the numbers
pub look-from_both : {R K : Type 0} {eq : K → K → Bool} (has_key : R → K → Type 0) (items : List (Entry R ℕ)) (postings : List (K × Posting)) (keys : List K) (numbers standing places : List ℕ)
    → ArePosted eq (HasOwn has_key) (map Some items) postings
    → ((n : ℕ) → Contains standing n ↔ ((e : Entry R ℕ) × (block_at (map Some items) n ≡ Some e) × StandsOn numbers e))
    → Ascends places → ((n : ℕ) → Contains places n ↔ (Contains standing n ⊎ ((k : K) × Contains keys k × Contains (numbers_of eq postings k) n)))
    → IsLook (IsFound has_key keys numbers) (map Some items) places
look-from_both {R} {K} {eq} has_key items postings keys numbers standing places posted stand up members = record {
  ascending = up;
  members = λ n. (
    λ c. elim ((members n).0 c) as (λ _. (e : Entry R ℕ) × (block_at (map Some items) n ≡ Some e) × IsFound has_key keys numbers e) [
      | inl on ↦ (let (e, at, f) = (stand n).0 on in (e, at, inr f))
      | inr (k, ck, cn) ↦ (let (e, at, own) = (posted.stands k n).0 cn in (e, at, inl (k, ck, own)))
    ],
    λ (e, at, f). (members n).1 (elim f as (λ _. Contains standing n ⊎ ((k : K) × Contains keys k × Contains (numbers_of eq postings k) n)) [
      | inl (k, ck, own) ↦ inr (k, ck, (posted.stands k n).1 (e, at, own))
      | inr on ↦ inl ((stand n).1 (e, at, on))
    ]),
  );
}

-- what holds anyway holds of what a call answers
pub IfOk-always : {A E : Type 0} (r : Result A E) (P : Type 0) → P → IfOk r (λ x. P)
IfOk-always (Ok x) P p = p
IfOk-always (Err e) P p = tt

-- as a call tells of the places that it answers
pub look-told : {R K E : Type 0} {eq : K → K → Bool} (r : Result (Vec ℕ Global) E) (has_key : R → K → Type 0) (items : List (Entry R ℕ)) (postings : List (K × Posting)) (keys : List K) (numbers standing : List ℕ)
    → ArePosted eq (HasOwn has_key) (map Some items) postings
    → ((n : ℕ) → Contains standing n ↔ ((e : Entry R ℕ) × (block_at (map Some items) n ≡ Some e) × StandsOn numbers e))
    → IfOk r (λ places. Ascends places.items) → IfOk r (λ places. (n : ℕ) → Contains places.items n ↔ (Contains standing n ⊎ ((k : K) × Contains keys k × Contains (numbers_of eq postings k) n)))
    → IfOk r (λ places. IsLook (IsFound has_key keys numbers) (map Some items) places.items)
look-told (Ok places) has_key items postings keys numbers standing posted stand up members = look-from_both has_key items postings keys numbers standing places.items posted stand up members
look-told (Err e) has_key items postings keys numbers standing posted stand up members = tt

pub look-of_keys : {R K E : Type 0} {eq : K → K → Bool} (r : Result (Vec ℕ Global) E) (has_key : R → K → Type 0) (blocks : List (Option (Entry R ℕ))) (postings : List (K × Posting)) (keys : List K) (given : List ℕ)
    → ArePosted eq (Has has_key) blocks postings → given ≡ []
    → IfOk r (λ numbers. Ascends numbers.items) → IfOk r (λ numbers. (n : ℕ) → Contains numbers.items n ↔ (Contains given n ⊎ ((k : K) × Contains keys k × Contains (numbers_of eq postings k) n)))
    → IfOk r (λ numbers. IsLook (IsUnder (Has has_key) keys) blocks numbers.items)
look-of_keys (Err e) has_key blocks postings keys given posted none up members = tt
look-of_keys {R} {K} {E} {eq} (Ok numbers) has_key blocks postings keys given posted none up members = record {
  ascending = up;
  members = λ n. (
    λ c. elim ((members n).0 c) as (λ _. (e : Entry R ℕ) × (block_at blocks n ≡ Some e) × IsUnder (Has has_key) keys e) [
      | inl (i, il, is) ↦ absurd (let len = ap length none in omega arith)
      | inr (k, ck, cn) ↦ (let (e, at, has) = (posted.stands k n).0 cn in (e, at, (k, ck, has)))
    ],
    λ (e, at, (k, ck, has)). (members n).1 (inr (k, ck, (posted.stands k n).1 (e, at, has))),
  );
}
