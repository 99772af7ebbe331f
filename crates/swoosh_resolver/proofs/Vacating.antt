-- The closed numbers on which no opened value stands, one after the other.
use Rattle.std.proofs.Common.{◌≡◌, ◌≢◌, ℕ, List, [], ◌∷◌, ◌++◌, Option, None, Some, sym, ◌∙◌, ap, subst, inl, inr, arith}
use Rattle.std.specs.Prelude.{◌↔◌, ◌⊎◌, Contains}
use Rattle.std.proofs.lemmas.List.Elements.{Contains-append_left, Contains-push, Contains-push_cases, Contains-get_or}
use Rattle.std.proofs.lemmas.List.Quantifiers.{all_pairs_push}
use Rattle.merge_laws.proofs.Places.{AllPairs-none}
use Rattle.swoosh_resolver.specs.Tables.{Base, Entry}
use Rattle.swoosh_resolver.specs.Changes.{AreVacated, IsStoodOn}
use Rattle.swoosh_resolver.proofs.Giving.{based-or_not}

-- the numbers are those on which the values stand
pub record AreStood {R K : Type 0} (done : List (Entry R K)) (numbers : List ℕ) : Type 0 where
  pub members : (n : ℕ) → Contains numbers n ↔ IsStoodOn done n

module _ {R K : Type 0} where
  pub stood_none : AreStood {R = R} {K = K} [] []
  stood_none = record { members = λ n. (λ (i, il, e). absurd (omega arith), λ (e, b, (i, il, at), is, same). absurd (omega arith)) }

  pub stood_more : (done : List (Entry R K)) (numbers numbers' : List ℕ) (x : Entry R K) → AreStood done numbers → ((b : Base R) → x.base ≡ Some b → numbers' ≡ numbers ++ b.number ∷ []) → (x.base ≡ None → numbers' ≡ numbers)
      → AreStood (done ++ x ∷ []) numbers'
  stood_more done numbers numbers' x so_far stands free = elim (based-or_not x.base) as (λ _. AreStood (done ++ x ∷ []) numbers') [
    | inl (b, is) ↦ rw (stands b is) (record {
      members = λ n. (
        λ c. elim (Contains-push_cases numbers b.number n c) as (λ _. IsStoodOn (done ++ x ∷ []) n) [
          | inl before ↦ (let (e, a, ce, is', same) = (so_far.members n).0 before in (e, a, Contains-append_left done (x ∷ []) e ce, is', same))
          | inr same ↦ (x, b, Contains-push done x, is, same)
        ],
        λ (e, a, ce, is', same). elim (Contains-push_cases done x e ce) as (λ _. Contains (numbers ++ b.number ∷ []) n) [
          | inl before ↦ Contains-append_left numbers (b.number ∷ []) n ((so_far.members n).1 (e, a, before, is', same))
          | inr last ↦
              (let one : b ≡ a = (let both : ◌≡◌ {A = Option (Base R)} (Some b) (Some a) = sym is ∙ subst (λ (z : Entry R K). z.base ≡ Some a) (sym last) is' in cc) in
              subst (Contains (numbers ++ b.number ∷ [])) (ap (λ (z : Base R). z.number) one ∙ same) (Contains-push numbers b.number))
        ],
      );
    })
    | inr none ↦ rw (free none) (record {
      members = λ n. (
        λ c. (let (e, a, ce, is', same) = (so_far.members n).0 c in (e, a, Contains-append_left done (x ∷ []) e ce, is', same)),
        λ (e, a, ce, is', same). elim (Contains-push_cases done x e ce) as (λ _. Contains numbers n) [
          | inl before ↦ (so_far.members n).1 (e, a, before, is', same)
          | inr last ↦ absurd (let both : ◌≡◌ {A = Option (Base R)} None (Some a) = sym none ∙ subst (λ (z : Entry R K). z.base ≡ Some a) (sym last) is' in cc)
        ],
      );
    })
  ]

  pub vacated_none : (opened : List (Entry R K)) → AreVacated [] opened []
  vacated_none opened = record {
    members = λ n c. c;
    free = λ n (i, il, e) there. omega arith;
    whole = λ n (i, il, e). absurd (omega arith);
    distinct = AllPairs-none (λ m n. m ≢ n);
  }

  module _ (opened : List (Entry R K)) (seen vacated : List ℕ) (n : ℕ) (so_far : AreVacated seen opened vacated) where
    pub vacated_more : (IsStoodOn opened n → ⊥) → (Contains seen n → ⊥) → AreVacated (seen ++ n ∷ []) opened (vacated ++ n ∷ [])
    vacated_more out new' = record {
      members = λ m c. elim (Contains-push_cases vacated n m c) as (λ _. Contains (seen ++ n ∷ []) m) [
        | inl before ↦ Contains-append_left seen (n ∷ []) m (so_far.members m before)
        | inr same ↦ subst (Contains (seen ++ n ∷ [])) same (Contains-push seen n)
      ];
      free = λ m c there. elim (Contains-push_cases vacated n m c) as (λ _. ⊥) [
        | inl before ↦ so_far.free m before there
        | inr same ↦ out (subst (IsStoodOn opened) (sym same) there)
      ];
      whole = λ m c. elim (Contains-push_cases seen n m c) as (λ _. Contains (vacated ++ n ∷ []) m ⊎ IsStoodOn opened m) [
        | inl before ↦ elim (so_far.whole m before) as (λ _. Contains (vacated ++ n ∷ []) m ⊎ IsStoodOn opened m) [
          | inl left ↦ inl (Contains-append_left vacated (n ∷ []) m left)
          | inr stood ↦ inr stood
        ]
        | inr same ↦ inl (subst (Contains (vacated ++ n ∷ [])) same (Contains-push vacated n))
      ];
      distinct = all_pairs_push (λ m n. m ≢ n) vacated n so_far.distinct (λ k d kl same. new' (so_far.members n (subst (Contains vacated) same (Contains-get_or vacated k d kl))));
    }

    pub vacated_skipped : IsStoodOn opened n → AreVacated (seen ++ n ∷ []) opened vacated
    vacated_skipped stood = record {
      members = λ m c. Contains-append_left seen (n ∷ []) m (so_far.members m c);
      free = so_far.free;
      whole = λ m c. elim (Contains-push_cases seen n m c) as (λ _. Contains vacated m ⊎ IsStoodOn opened m) [
        | inl before ↦ so_far.whole m before
        | inr same ↦ inr (subst (IsStoodOn opened) same stood)
      ];
      distinct = so_far.distinct;
    }

-- those of the numbers that are closed
pub record AreShut (closed numbers shut : List ℕ) : Type 0 where
  pub members : (n : ℕ) → Contains shut n ↔ (Contains numbers n × Contains closed n)

pub shut_none : (closed : List ℕ) → AreShut closed [] []
shut_none closed = record { members = λ n. (λ (i, il, e). absurd (omega arith), λ (c, c'). c) }

module _ (closed numbers shut : List ℕ) (n : ℕ) (so_far : AreShut closed numbers shut) where
  pub shut_more : Contains closed n → AreShut closed (numbers ++ n ∷ []) (shut ++ n ∷ [])
  shut_more there = record {
    members = λ m. (
      λ c. elim (Contains-push_cases shut n m c) as (λ _. Contains (numbers ++ n ∷ []) m × Contains closed m) [
        | inl before ↦ (let (cn, cc') = (so_far.members m).0 before in (Contains-append_left numbers (n ∷ []) m cn, cc'))
        | inr same ↦ (subst (Contains (numbers ++ n ∷ [])) same (Contains-push numbers n), subst (Contains closed) same there)
      ],
      λ (cn, cc'). elim (Contains-push_cases numbers n m cn) as (λ _. Contains (shut ++ n ∷ []) m) [
        | inl before ↦ Contains-append_left shut (n ∷ []) m ((so_far.members m).1 (before, cc'))
        | inr same ↦ subst (Contains (shut ++ n ∷ [])) same (Contains-push shut n)
      ],
    );
  }

  pub shut_skipped : (Contains closed n → ⊥) → AreShut closed (numbers ++ n ∷ []) shut
  shut_skipped out = record {
    members = λ m. (
      λ c. (let (cn, cc') = (so_far.members m).0 c in (Contains-append_left numbers (n ∷ []) m cn, cc')),
      λ (cn, cc'). elim (Contains-push_cases numbers n m cn) as (λ _. Contains shut m) [
        | inl before ↦ (so_far.members m).1 (before, cc')
        | inr same ↦ absurd (out (subst (Contains closed) (sym same) cc'))
      ],
    );
  }
