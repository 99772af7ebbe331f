-- The numbers that opened values are given, one after the other.
use Rattle.std.proofs.Common.{◌≡◌, ◌≢◌, ℕ, ◌+◌, ◌-◌, ◌<◌, ◌≤◌, Bool, List, [], ◌∷◌, ◌++◌, Option, None, Some, length, length-append, length-take, get_or, take, refl, sym, ◌∙◌, ap, subst, inl, inr, arith}
use Rattle.std.specs.Prelude.{◌⊎◌, AllPairs, Contains}
use Rattle.std.proofs.Math.Decide.{dec_lt}
use Rattle.std.proofs.lemmas.List.{get_or_default, get_or-take}
use Rattle.std.proofs.lemmas.List.Elements.{Contains-append_left, Contains-get_or, Contains-push}
use Rattle.std.proofs.lemmas.List.Quantifiers.{all_pairs_push}
use Rattle.merge_laws.proofs.Places.{AllPairs-none}
use Rattle.swoosh_resolver.specs.Tables.{Base, Entry}
use Rattle.swoosh_resolver.specs.Changes.{AreGiven, AreNumbers, AreVacated, Fits, IsStoodOn, StandApart, number_at}
use Rattle.swoosh_resolver.proofs.Opening.{element, number-closed, number-new, numbers-apart, pushed-before, pushed-last, within-from_some}

-- one entry has a base, or has none
pub based-or_not : {R : Type 0} (base : Option (Base R)) → ((b : Base R) × (base ≡ Some b)) ⊎ (base ≡ None)
based-or_not None = inr refl
based-or_not (Some b) = inl (b, refl)

-- the numbers of the values so far, of which `places` stand on no block
pub record AreGiving {R K : Type 0} (vacated : List ℕ) (first : ℕ) (done : List (Entry R K)) (places : ℕ) (numbers : List ℕ) : Type 0 where
  pub len : length numbers ≡ length done
  pub few : places ≤ length done
  pub distinct : AllPairs (λ m n. m ≢ n) numbers
  pub seated : (i : ℕ) (e : Entry R K) (b : Base R) → i < length done → get_or done i e ≡ e → e.base ≡ Some b → get_or numbers i 0 ≡ b.number
  pub fresh : (i : ℕ) (e : Entry R K) → i < length done → get_or done i e ≡ e → e.base ≡ None → (j : ℕ) × (j < places) × (get_or numbers i 0 ≡ number_at vacated first j)
  pub given : (j : ℕ) → j < places → Contains numbers (number_at vacated first j)

module _ {R K : Type 0} (vacated : List ℕ) (first : ℕ) where
  pub giving_none : AreGiving {R = R} {K = K} vacated first [] 0 []
  giving_none = record {
    len = refl;
    few = omega arith;
    distinct = AllPairs-none (λ m n. m ≢ n);
    seated = λ i e b il. absurd (omega arith);
    fresh = λ i e il. absurd (omega arith);
    given = λ j jl. absurd (omega arith);
  }

  module _ (distinct : AllPairs (λ m n. m ≢ n) vacated) (below : (n : ℕ) → Contains vacated n → n < first)
      (opened : List (Entry R K)) (stood : (n : ℕ) → IsStoodOn opened n → (n < first) × (Contains vacated n → ⊥)) where
    -- the number of a value that stands on no block is none on which one stands
    apart-from_base : (j : ℕ) (n : ℕ) → IsStoodOn opened n → number_at vacated first j ≢ n
    apart-from_base j n there same =
        let (low, out) = stood n there in
        elim (dec_lt j (length vacated)) as (λ _. ⊥) [
          | yes h ↦ out (subst (Contains vacated) (sym (number-closed vacated first j h) ∙ same) (Contains-get_or vacated j 0 h))
          | no h ↦ (let e = number-new vacated first j (omega arith) in omega arith)
        ]

    module _ (done : List (Entry R K)) (places : ℕ) (numbers : List ℕ) (so_far : AreGiving vacated first done places numbers) (x : Entry R K) (there : Contains opened x)
        (before : (e : Entry R K) → Contains done e → Contains opened e) (alone : (e : Entry R K) → Contains done e → StandApart e x) where
      at-done : (k : ℕ) → k < length numbers → (e : Entry R K) × (get_or done k e ≡ e) × Contains done e
      at-done k kl =
          let len = so_far.len in
          let e = get_or done k x in
          let is : get_or done k e ≡ e = get_or_default done k e x (omega arith) in
          (e, is, (k, omega arith, is))

      -- a value that stands on a block
      pub giving-based : (b : Base R) → x.base ≡ Some b → AreGiving vacated first (done ++ x ∷ []) places (numbers ++ b.number ∷ [])
      giving-based b is =
          let len = so_far.len in
          let few = so_far.few in
          let longer = length-append done (x ∷ []) in
          let longer' = length-append numbers (b.number ∷ []) in
          let own : IsStoodOn opened b.number = (x, b, there, is, refl) in
          record {
            len = omega arith;
            few = omega arith;
            distinct = all_pairs_push (λ m n. m ≢ n) numbers b.number so_far.distinct (λ k d kl same.
                let (e, at, c) = at-done k kl in
                let here : get_or numbers k 0 ≡ b.number = get_or_default numbers k 0 d kl ∙ same in
                elim (based-or_not e.base) as (λ _. ⊥) [
                  | inl (a, is') ↦ alone e c a b is' is (sym (so_far.seated k e a (omega arith) at is') ∙ here)
                  | inr none ↦ (let (j, jl, this) = so_far.fresh k e (omega arith) at none in apart-from_base j b.number own (sym this ∙ here))
                ]);
            seated = λ i e a il at is'. elim (dec_lt i (length done)) as (λ _. get_or (numbers ++ b.number ∷ []) i 0 ≡ a.number) [
              | yes old ↦ pushed-before numbers b.number i 0 (omega arith) ∙ so_far.seated i e a old (sym (pushed-before done x i e old) ∙ at) is'
              | no new ↦
                  (let last : i ≡ length numbers = omega arith in
                  let last' : i ≡ length done = omega arith in
                  let this : x ≡ e = sym (pushed-last done x e) ∙ (let at' : get_or (done ++ x ∷ []) (length done) e ≡ e = rw last' at at in at') in
                  let one : b ≡ a = let both : ◌≡◌ {A = Option (Base R)} (Some b) (Some a) = sym is ∙ subst (λ (z : Entry R K). z.base ≡ Some a) (sym this) is' in cc in
                  rw last (pushed-last numbers b.number 0 ∙ ap (λ (z : Base R). z.number) one))
            ];
            fresh = λ i e il at none. elim (dec_lt i (length done)) as (λ _. (j : ℕ) × (j < places) × (get_or (numbers ++ b.number ∷ []) i 0 ≡ number_at vacated first j)) [
              | yes old ↦ (let (j, jl, this) = so_far.fresh i e old (sym (pushed-before done x i e old) ∙ at) none in (j, jl, pushed-before numbers b.number i 0 (omega arith) ∙ this))
              | no new ↦
                  (let last' : i ≡ length done = omega arith in
                  let this : x ≡ e = sym (pushed-last done x e) ∙ (let at' : get_or (done ++ x ∷ []) (length done) e ≡ e = rw last' at at in at') in
                  let both : ◌≡◌ {A = Option (Base R)} (Some b) None = sym is ∙ subst (λ (z : Entry R K). z.base ≡ None) (sym this) none in absurd cc)
            ];
            given = λ j jl. Contains-append_left numbers (b.number ∷ []) (number_at vacated first j) (so_far.given j jl);
          }

      -- a value that stands on none
      pub giving-fresh : x.base ≡ None → AreGiving vacated first (done ++ x ∷ []) (places + 1) (numbers ++ number_at vacated first places ∷ [])
      giving-fresh none =
          let len = so_far.len in
          let few = so_far.few in
          let new' = number_at vacated first places in
          let longer = length-append done (x ∷ []) in
          let longer' = length-append numbers (new' ∷ []) in
          record {
            len = omega arith;
            few = omega arith;
            distinct = all_pairs_push (λ m n. m ≢ n) numbers new' so_far.distinct (λ k d kl same.
                let (e, at, c) = at-done k kl in
                let here : get_or numbers k 0 ≡ new' = get_or_default numbers k 0 d kl ∙ same in
                elim (based-or_not e.base) as (λ _. ⊥) [
                  | inl (a, is') ↦ apart-from_base places a.number (e, a, before e c, is', refl) (sym here ∙ so_far.seated k e a (omega arith) at is')
                  | inr none' ↦ (let (j, jl, this) = so_far.fresh k e (omega arith) at none' in numbers-apart vacated first distinct below j places jl (sym this ∙ here))
                ]);
            seated = λ i e a il at is'. elim (dec_lt i (length done)) as (λ _. get_or (numbers ++ new' ∷ []) i 0 ≡ a.number) [
              | yes old ↦ pushed-before numbers new' i 0 (omega arith) ∙ so_far.seated i e a old (sym (pushed-before done x i e old) ∙ at) is'
              | no new ↦
                  (let last' : i ≡ length done = omega arith in
                  let this : x ≡ e = sym (pushed-last done x e) ∙ (let at' : get_or (done ++ x ∷ []) (length done) e ≡ e = rw last' at at in at') in
                  let both : ◌≡◌ {A = Option (Base R)} None (Some a) = sym none ∙ subst (λ (z : Entry R K). z.base ≡ Some a) (sym this) is' in absurd cc)
            ];
            fresh = λ i e il at none'. elim (dec_lt i (length done)) as (λ _. (j : ℕ) × (j < places + 1) × (get_or (numbers ++ new' ∷ []) i 0 ≡ number_at vacated first j)) [
              | yes old ↦ (let (j, jl, this) = so_far.fresh i e old (sym (pushed-before done x i e old) ∙ at) none' in (j, omega arith, pushed-before numbers new' i 0 (omega arith) ∙ this))
              | no new ↦ (let last : i ≡ length numbers = omega arith in (places, omega arith, rw last (pushed-last numbers new' 0)))
            ];
            given = λ j jl. elim (dec_lt j places) as (λ _. Contains (numbers ++ new' ∷ []) (number_at vacated first j)) [
              | yes old ↦ Contains-append_left numbers (new' ∷ []) (number_at vacated first j) (so_far.given j old)
              | no new ↦ (let last : j ≡ places = omega arith in rw last (Contains-push numbers new'))
            ];
          }

    -- one value more
    pub giving-more : (alone : AllPairs StandApart opened) (i : ℕ) (x : Entry R K) → i < length opened → x ≡ get_or opened i x → (places : ℕ) (numbers : List ℕ) → AreGiving vacated first (take i opened) places numbers
        → (n places' : ℕ) → ((b : Base R) → x.base ≡ Some b → n ≡ b.number) → (x.base ≡ None → n ≡ number_at vacated first places) → ((b : Base R) → x.base ≡ Some b → places' ≡ places) → (x.base ≡ None → places' ≡ places + 1)
        → AreGiving vacated first (take i opened ++ x ∷ []) places' (numbers ++ n ∷ [])
    giving-more alone i x il is places numbers so_far n places' stands free same next =
        let there : Contains opened x = (i, il, sym is) in
        elim (based-or_not x.base) as (λ _. AreGiving vacated first (take i opened ++ x ∷ []) places' (numbers ++ n ∷ [])) [
          | inl (b, has) ↦ rw (stands b has, same b has) (giving-based (take i opened) places numbers so_far x there before apart b has)
          | inr none ↦ rw (free none, next none) (giving-fresh (take i opened) places numbers so_far x there before apart none)
        ]
      where
        within : (e : Entry R K) → Contains (take i opened) e → (k : ℕ) × (k < i) × (get_or opened k e ≡ e)
        within e (k, kl, at) = let few = length-take i opened in (k, omega arith, sym (get_or-take i opened k e (omega arith)) ∙ at)

        before : (e : Entry R K) → Contains (take i opened) e → Contains opened e
        before e c = let (k, ki, at) = within e c in (k, omega arith, at)

        apart : (e : Entry R K) → Contains (take i opened) e → StandApart e x
        apart e c =
            let (k, ki, at) = within e c in
            let here : get_or opened i e ≡ x = get_or_default opened i e x il ∙ sym is in
            subst (λ z. StandApart z x) at (subst (StandApart (get_or opened k e)) here (alone k i e ki il))

    -- all are given
    pub given-all : (places : ℕ) (numbers : List ℕ) → AreGiving vacated first opened places numbers → AreGiven vacated first opened numbers
    given-all places numbers all = record {
      len = all.len;
      distinct = all.distinct;
      seated = record { seated = all.seated };
      fresh = λ i e il at none.
          (let (j, jl, this) = all.fresh i e il at none in
          elim (dec_lt j (length vacated)) as (λ _. Contains vacated (get_or numbers i 0) ⊎ (first ≤ get_or numbers i 0)) [
            | yes h ↦ inl (subst (Contains vacated) (sym (this ∙ number-closed vacated first j h)) (Contains-get_or vacated j 0 h))
            | no h ↦ (let e' = number-new vacated first j (omega arith) in inr (omega arith))
          ]);
      within = λ n c new.
          let (j, jl, (this, past)) = newest n c new in
          let few = all.few in
          omega arith;
      saved = λ n c new m before.
          let (j, jl, (this, past)) = newest n c new in
          elim before as (λ _. Contains numbers m) [
            | inl (k, kl, is) ↦ subst (Contains numbers) (number-closed vacated first k kl ∙ get_or_default vacated k 0 m kl ∙ is) (all.given k (omega arith))
            | inr (low, less) ↦
                (let k = length vacated + (m - first) in
                let e' : number_at vacated first k ≡ m = let e'' = number-new vacated first k (omega arith) in omega arith in
                subst (Contains numbers) e' (all.given k (omega arith)))
          ];
    }
      where
        -- a new number is that of a value after all vacated numbers
        newest : (n : ℕ) → Contains numbers n → first ≤ n → (j : ℕ) × (j < places) × ((n ≡ first + (j - length vacated)) × (length vacated ≤ j))
        newest n (i, il, is) new =
            let len = all.len in
            let (e, at) = element opened i (omega arith) in
            elim (based-or_not e.base) as (λ _. (j : ℕ) × (j < places) × ((n ≡ first + (j - length vacated)) × (length vacated ≤ j))) [
              | inl (b, is') ↦
                  (let here : n ≡ b.number = sym is ∙ get_or_default numbers i n 0 il ∙ all.seated i e b (omega arith) at is' in
                  let low = (stood b.number (e, b, (i, omega arith, at), is', refl)).0 in absurd (omega arith))
              | inr none ↦
                  (let (j, jl, this) = all.fresh i e (omega arith) at none in
                  let here : n ≡ number_at vacated first j = sym is ∙ get_or_default numbers i n 0 il ∙ this in
                  elim (dec_lt j (length vacated)) as (λ _. (j : ℕ) × (j < places) × ((n ≡ first + (j - length vacated)) × (length vacated ≤ j))) [
                    | yes h ↦ (let low = below (get_or vacated j 0) (Contains-get_or vacated j 0 h) in let e' = number-closed vacated first j h in absurd (omega arith))
                    | no h ↦ (j, jl, (here ∙ number-new vacated first j (omega arith), omega arith))
                  ])
            ]

-- what is given are numbers for the opened values of a change that fits
pub numbers-given : {R K : Type 0} {match : R → R → Bool} (blocks : List (Option (Entry R K))) (closed vacated : List ℕ) (opened : List (Entry R K)) (numbers : List ℕ) → Fits match blocks closed opened
    → AreVacated closed opened vacated → AreGiven vacated (length blocks) opened numbers → AreNumbers closed (length blocks) (length opened) numbers
numbers-given {R} {K} blocks closed vacated opened numbers fits left given = record {
  len = given.len;
  distinct = given.distinct;
  each = λ n (i, il, is).
      (let len = given.len in
      let (e, at) = element opened i (omega arith) in
      elim (based-or_not e.base) as (λ _. Contains closed n ⊎ (length blocks ≤ n)) [
        | inl (b, is') ↦ inl (subst (Contains closed) (sym (sym is ∙ get_or_default numbers i n 0 il ∙ given.seated.seated i e b (omega arith) at is')) (fits.based e b (i, omega arith, at) is').closes)
        | inr none ↦ elim (given.fresh i e (omega arith) at none) as (λ _. Contains closed n ⊎ (length blocks ≤ n)) [
          | inl free ↦ inl (left.members n (subst (Contains vacated) (sym (sym is ∙ get_or_default numbers i n 0 il)) free))
          | inr new ↦ inr (subst (λ m. length blocks ≤ m) (sym (sym is ∙ get_or_default numbers i n 0 il)) new)
        ]
      ]);
  saved = λ n c new m before. elim before as (λ _. Contains numbers m) [
    | inl there ↦ elim (left.whole m there) as (λ _. Contains numbers m) [
      | inl free ↦ given.saved n c new m (inl free)
      | inr (e, b, (i, il, at), is, same) ↦ (i, let len = given.len in omega arith, get_or_default numbers i m 0 (let len = given.len in omega arith) ∙ given.seated.seated i e b il at is ∙ same)
    ]
    | inr next ↦ given.saved n c new m (inr next)
  ];
}

-- a base's number is below those of new blocks
pub stood-below : {R K : Type 0} {match : R → R → Bool} (blocks : List (Option (Entry R K))) (closed : List ℕ) (opened : List (Entry R K)) → Fits match blocks closed opened → (n : ℕ) → IsStoodOn opened n → n < length blocks
stood-below blocks closed opened fits n (e, b, c, is, same) = within-from_some blocks n (fits.named n (subst (Contains closed) same (fits.based e b c is).closes))
