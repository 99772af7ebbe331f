-- A number that is put under keys, or taken from under them, one key after another.
use Rattle.std.proofs.Common.{◌≡◌, ◌≢◌, ℕ, ◌+◌, ◌≤◌, Bool, true, false, cond, List, [], ◌∷◌, ◌++◌, refl, sym, ◌∙◌, ap, subst, true≢false, inl, inr, arith}
use Rattle.std.specs.Prelude.{◌↔◌, ◌⊎◌, Contains, count_by}
use Rattle.std.specs.Cmp.{IsEquivalence}
use Rattle.std.proofs.lemmas.List.Elements.{Contains-append_left, Contains-push, Contains-push_cases}
use Rattle.std.proofs.lemmas.List.Sums.{sum_by-append}
use Rattle.feature_index.specs.Postings.{Posting, posting_of, numbers_of, spare_of, Exchanges, Gains, Loses}

-- new has the number no more under the keys, and all else is as in old
pub record IsUnposted {K : Type 0} (eq : K → K → Bool) (old : List (K × Posting)) (keys : List K) (number : ℕ) (new : List (K × Posting)) : Type 0 where
  pub numbers : (k : K) (n : ℕ) → Contains (numbers_of eq new k) n ↔ (Contains (numbers_of eq old k) n × (Contains keys k → n ≢ number))
  pub spares : (k : K) → spare_of eq new k ≡ spare_of eq old k

-- new has the second number in the place of the first under the keys, and all else is as in old
pub record IsRenumbered {K : Type 0} (eq : K → K → Bool) (old : List (K × Posting)) (keys : List K) (from to : ℕ) (new : List (K × Posting)) : Type 0 where
  pub numbers : (k : K) (n : ℕ) → Contains (numbers_of eq new k) n ↔ ((Contains (numbers_of eq old k) n × (Contains keys k → n ≢ from)) ⊎ (Contains keys k × (n ≡ to)))

-- new has the number under the keys too, and for each key at most a spare is used
pub record IsPosted {K : Type 0} (eq : K → K → Bool) (old : List (K × Posting)) (keys : List K) (number : ℕ) (new : List (K × Posting)) : Type 0 where
  pub numbers : (k : K) (n : ℕ) → Contains (numbers_of eq new k) n ↔ (Contains (numbers_of eq old k) n ⊎ (Contains keys k × (n ≡ number)))
  pub spares : (k : K) → spare_of eq old k ≤ spare_of eq new k + count_by (eq k) keys

module _ {K : Type 0} {eq : K → K → Bool} (laws : IsEquivalence eq) (exact : (j k : K) → eq j k ≡ true → j ≡ k) where
  -- keys are one or are told apart
  cases : (j k : K) → (j ≡ k) ⊎ (eq j k ≡ false)
  cases j k = elim (eq j k) as (λ b. eq j k ≡ b → (j ≡ k) ⊎ (eq j k ≡ false)) [
    | true ↦ λ e. inl (exact j k e)
    | false ↦ λ e. inr e
  ] refl

  other : (j k : K) → eq j k ≡ false → j ≡ k → ⊥
  other j k e same = true≢false (sym (subst (λ z. eq j z ≡ true) same (laws.refl j)) ∙ e)

  pub unposted_none : (old : List (K × Posting)) (number : ℕ) → IsUnposted eq old [] number old
  unposted_none old number = record {
    numbers = λ k n. (λ c. (c, λ (i, il, e). absurd (omega arith)), λ (c, h). c);
    spares = λ k. refl;
  }

  pub unposted_more : (old now then' : List (K × Posting)) (keys : List K) (number : ℕ) (key : K) → IsUnposted eq old keys number now
      → Loses (numbers_of eq now key) (numbers_of eq then' key) number → spare_of eq then' key ≡ spare_of eq now key
      → ((k : K) → eq key k ≡ false → posting_of eq then' k ≡ posting_of eq now k)
      → IsUnposted eq old (keys ++ key ∷ []) number then'
  unposted_more old now then' keys number key h loses spare others = record {
    numbers = λ k n. elim (cases key k) as (λ _. Contains (numbers_of eq then' k) n ↔ (Contains (numbers_of eq old k) n × (Contains (keys ++ key ∷ []) k → n ≢ number))) [
      | inl same ↦ subst (λ k. Contains (numbers_of eq then' k) n ↔ (Contains (numbers_of eq old k) n × (Contains (keys ++ key ∷ []) k → n ≢ number))) same (
        λ c. (((h.numbers key n).0 ((loses.numbers n).0 c).0).0, λ _. ((loses.numbers n).0 c).1),
        λ (c, ne). (loses.numbers n).1 ((h.numbers key n).1 (c, λ _. ne (Contains-push keys key)), ne (Contains-push keys key)),
      )
      | inr apart ↦ (let same : numbers_of eq then' k ≡ numbers_of eq now k = ap (λ (p : Posting). p.numbers) (others k apart) in rw same (
        λ c. (((h.numbers k n).0 c).0, λ ck. elim (Contains-push_cases keys key k ck) as (λ _. n ≢ number) [ inl old' ↦ ((h.numbers k n).0 c).1 old' | inr e ↦ absurd (other key k apart e) ]),
        λ (c, ne). (h.numbers k n).1 (c, λ ck. ne (Contains-append_left keys (key ∷ []) k ck)),
      ))
    ];
    spares = λ k. elim (cases key k) as (λ _. spare_of eq then' k ≡ spare_of eq old k) [
      | inl same ↦ subst (λ k. spare_of eq then' k ≡ spare_of eq old k) same (spare ∙ h.spares key)
      | inr apart ↦ ap (λ (p : Posting). p.spare) (others k apart) ∙ h.spares k
    ];
  }

  pub posted_none : (old : List (K × Posting)) (number : ℕ) → IsPosted eq old [] number old
  posted_none old number = record {
    numbers = λ k n. (λ c. inl c, λ h. elim h as (λ _. Contains (numbers_of eq old k) n) [ inl c ↦ c | inr ((i, il, e), same) ↦ absurd (omega arith) ]);
    spares = λ k. omega arith;
  }

  pub posted_more : (old now then' : List (K × Posting)) (keys : List K) (number : ℕ) (key : K) → IsPosted eq old keys number now
      → Gains (numbers_of eq now key) (numbers_of eq then' key) number → spare_of eq now key ≤ spare_of eq then' key + 1
      → ((k : K) → eq key k ≡ false → posting_of eq then' k ≡ posting_of eq now k)
      → IsPosted eq old (keys ++ key ∷ []) number then'
  posted_more old now then' keys number key h gains used others = record {
    numbers = λ k n. elim (cases key k) as (λ _. Contains (numbers_of eq then' k) n ↔ (Contains (numbers_of eq old k) n ⊎ (Contains (keys ++ key ∷ []) k × (n ≡ number)))) [
      | inl same ↦ subst (λ k. Contains (numbers_of eq then' k) n ↔ (Contains (numbers_of eq old k) n ⊎ (Contains (keys ++ key ∷ []) k × (n ≡ number)))) same (
        λ c. elim ((gains.numbers n).0 c) as (λ _. Contains (numbers_of eq old key) n ⊎ (Contains (keys ++ key ∷ []) key × (n ≡ number))) [
          | inl c' ↦ elim ((h.numbers key n).0 c') as (λ _. Contains (numbers_of eq old key) n ⊎ (Contains (keys ++ key ∷ []) key × (n ≡ number))) [ inl c'' ↦ inl c'' | inr (ck, e) ↦ inr (Contains-push keys key, e) ]
          | inr e ↦ inr (Contains-push keys key, e)
        ],
        λ w. elim w as (λ _. Contains (numbers_of eq then' key) n) [
          | inl c ↦ (gains.numbers n).1 (inl ((h.numbers key n).1 (inl c)))
          | inr (ck, e) ↦ (gains.numbers n).1 (inr e)
        ],
      )
      | inr apart ↦ (let same : numbers_of eq then' k ≡ numbers_of eq now k = ap (λ (p : Posting). p.numbers) (others k apart) in rw same (
        λ c. elim ((h.numbers k n).0 c) as (λ _. Contains (numbers_of eq old k) n ⊎ (Contains (keys ++ key ∷ []) k × (n ≡ number))) [ inl c' ↦ inl c' | inr (ck, e) ↦ inr (Contains-append_left keys (key ∷ []) k ck, e) ],
        λ w. (h.numbers k n).1 (elim w as (λ _. Contains (numbers_of eq old k) n ⊎ (Contains keys k × (n ≡ number))) [
          | inl c ↦ inl c
          | inr (ck, e) ↦ elim (Contains-push_cases keys key k ck) as (λ _. Contains (numbers_of eq old k) n ⊎ (Contains keys k × (n ≡ number))) [ inl c ↦ inr (c, e) | inr same' ↦ absurd (other key k apart same') ]
        ]),
      ))
    ];
    spares = λ k.
        let longer : count_by (eq k) (keys ++ key ∷ []) ≡ count_by (eq k) keys + cond (eq k key) 1 0 = (let raw = sum_by-append (λ x. cond (eq k x) 1 0) keys (key ∷ []) in omega arith) in
        elim (cases key k) as (λ _. spare_of eq old k ≤ spare_of eq then' k + count_by (eq k) (keys ++ key ∷ [])) [
          | inl same ↦
              (let itself : eq k key ≡ true = subst (λ z. eq z key ≡ true) same (laws.refl key) in
              let longer' : count_by (eq k) (keys ++ key ∷ []) ≡ count_by (eq k) keys + 1 = rw itself at longer in
              let used' : spare_of eq now k ≤ spare_of eq then' k + 1 = subst (λ z. spare_of eq now z ≤ spare_of eq then' z + 1) same used in
              let before = h.spares k in omega arith)
          | inr apart ↦ (let stays : spare_of eq then' k ≡ spare_of eq now k = ap (λ (p : Posting). p.spare) (others k apart) in let before = h.spares k in omega arith)
        ];
  }

  pub renumbered_none : (old : List (K × Posting)) (from to : ℕ) → IsRenumbered eq old [] from to old
  renumbered_none old from to = record {
    numbers = λ k n. (
      λ c. inl (c, λ (i, il, e). absurd (omega arith)),
      λ h. elim h as (λ _. Contains (numbers_of eq old k) n) [ inl (c, ne) ↦ c | inr ((i, il, e), same) ↦ absurd (omega arith) ],
    );
  }

  pub renumbered_more : (old now then' : List (K × Posting)) (keys : List K) (from to : ℕ) (key : K) → IsRenumbered eq old keys from to now
      → Exchanges (numbers_of eq now key) (numbers_of eq then' key) from to
      → ((k : K) → eq key k ≡ false → posting_of eq then' k ≡ posting_of eq now k)
      → IsRenumbered eq old (keys ++ key ∷ []) from to then'
  renumbered_more old now then' keys from to key h exchanges others = record {
    numbers = λ k n. elim (cases key k) as (λ _. Contains (numbers_of eq then' k) n ↔ ((Contains (numbers_of eq old k) n × (Contains (keys ++ key ∷ []) k → n ≢ from)) ⊎ (Contains (keys ++ key ∷ []) k × (n ≡ to)))) [
      | inl same ↦ subst (λ k. Contains (numbers_of eq then' k) n ↔ ((Contains (numbers_of eq old k) n × (Contains (keys ++ key ∷ []) k → n ≢ from)) ⊎ (Contains (keys ++ key ∷ []) k × (n ≡ to)))) same (
        λ c. elim ((exchanges.numbers n).0 c) as (λ _. (Contains (numbers_of eq old key) n × (Contains (keys ++ key ∷ []) key → n ≢ from)) ⊎ (Contains (keys ++ key ∷ []) key × (n ≡ to))) [
          | inl (c', ne) ↦ elim ((h.numbers key n).0 c') as (λ _. (Contains (numbers_of eq old key) n × (Contains (keys ++ key ∷ []) key → n ≢ from)) ⊎ (Contains (keys ++ key ∷ []) key × (n ≡ to))) [
            | inl (c'', ne') ↦ inl (c'', λ _. ne)
            | inr (ck, e) ↦ inr (Contains-push keys key, e)
          ]
          | inr e ↦ inr (Contains-push keys key, e)
        ],
        λ w. elim w as (λ _. Contains (numbers_of eq then' key) n) [
          | inl (c, ne) ↦ (exchanges.numbers n).1 (inl ((h.numbers key n).1 (inl (c, λ _. ne (Contains-push keys key))), ne (Contains-push keys key)))
          | inr (ck, e) ↦ (exchanges.numbers n).1 (inr e)
        ],
      )
      | inr apart ↦ (let same : numbers_of eq then' k ≡ numbers_of eq now k = ap (λ (p : Posting). p.numbers) (others k apart) in rw same (
        λ c. elim ((h.numbers k n).0 c) as (λ _. (Contains (numbers_of eq old k) n × (Contains (keys ++ key ∷ []) k → n ≢ from)) ⊎ (Contains (keys ++ key ∷ []) k × (n ≡ to))) [
          | inl (c', ne) ↦ inl (c', λ ck. elim (Contains-push_cases keys key k ck) as (λ _. n ≢ from) [ inl old' ↦ ne old' | inr e ↦ absurd (other key k apart e) ])
          | inr (ck, e) ↦ inr (Contains-append_left keys (key ∷ []) k ck, e)
        ],
        λ w. (h.numbers k n).1 (elim w as (λ _. (Contains (numbers_of eq old k) n × (Contains keys k → n ≢ from)) ⊎ (Contains keys k × (n ≡ to))) [
          | inl (c, ne) ↦ inl (c, λ ck. ne (Contains-append_left keys (key ∷ []) k ck))
          | inr (ck, e) ↦ elim (Contains-push_cases keys key k ck) as (λ _. (Contains (numbers_of eq old k) n × (Contains keys k → n ≢ from)) ⊎ (Contains keys k × (n ≡ to))) [ inl c ↦ inr (c, e) | inr same' ↦ absurd (other key k apart same') ]
        ]),
      ))
    ];
  }
