-- A value that is put under a number where a block stands whose places it has first, or none.
use Rattle.std.proofs.Common.{◌≡◌, ◌≢◌, ◌≤◌, ℕ, Bool, List, ◌++◌, Option, None, Some, length, length-take, take, drop, refl, sym, ◌∙◌, ap, subst, inl, inr, arith}
use Rattle.std.specs.Prelude.{◌↔◌, ◌⊎◌, AllPairs, Contains, IsSome}
use Rattle.std.proofs.lemmas.List.{take-append-drop}
use Rattle.std.proofs.lemmas.List.Elements.{Contains-append_cases, Contains-append_left, Contains-append_right, filter_map-append}
use Rattle.feature_index.specs.Postings.{Posting, key_at, numbers_of}
use Rattle.swoosh_resolver.specs.Tables.{Entry, ArePosted, Has, IsPlaced, block_at, keys_at, places_at}
use Rattle.swoosh_resolver.proofs.Across.{AllPairs-across, AllPairs-after}
use Rattle.swoosh_resolver.proofs.Opening.{one_or_not}

module _ {R K : Type 0} {eq : K → K → Bool} (has_key : R → K → Type 0) (blocks : List (Option (Entry R ℕ))) (old : List (K × Posting)) (posted : ArePosted eq (Has has_key) blocks old) (n : ℕ)
    (standing : (e : Entry R ℕ) → block_at blocks n ≡ Some e → IsPlaced (has_key e.value) old e.keys) where
  -- a number stands under the keys of its block, and no others
  under : (k : K) → Contains (numbers_of eq old k) n ↔ Contains (keys_at old (places_at blocks n)) k
  under k = go (block_at blocks n) refl
    where
      go : (o : Option (Entry R ℕ)) → block_at blocks n ≡ o → Contains (numbers_of eq old k) n ↔ Contains (keys_at old (places_at blocks n)) k
      go None is = rw is (
        λ c. (let (e, at, has) = (posted.stands k n).0 c in absurd cc),
        λ (i, il, e). absurd (omega arith),
      )
      go (Some f) is = rw is (
        λ c. (let (e, at, has) = (posted.stands k n).0 c in let same : e ≡ f = cc in ((standing f is).keys.members k).1 (subst (λ (z : Entry R ℕ). has_key z.value k) same has)),
        λ c. (posted.stands k n).1 (f, is, ((standing f is).keys.members k).0 c),
      )

  module _ (x : Entry R ℕ) (placed : IsPlaced (has_key x.value) old x.keys) (starts : places_at blocks n ≡ take (length (places_at blocks n)) x.keys) where
    -- the block has no more places than the value
    pub starts-within : length (places_at blocks n) ≤ length x.keys
    starts-within = let len = length-take (length (places_at blocks n)) x.keys in let e = ap length starts in omega arith

    abbrev rest : List ℕ
    rest = drop (length (places_at blocks n)) x.keys

    whole : places_at blocks n ++ rest ≡ x.keys
    whole = ap (λ ps. ps ++ rest) starts ∙ take-append-drop (length (places_at blocks n)) x.keys

    keys-whole : keys_at old x.keys ≡ keys_at old (places_at blocks n) ++ keys_at old rest
    keys-whole = ap (keys_at old) (sym whole) ∙ filter_map-append (key_at old) (places_at blocks n) rest

    pub rest-rows : (place : ℕ) → Contains rest place → IsSome (key_at old place)
    rest-rows place c = placed.rows place (subst (λ ps. Contains ps place) whole (Contains-append_right (places_at blocks n) rest place c))

    both-once : AllPairs (λ j k. j ≢ k) (keys_at old (places_at blocks n) ++ keys_at old rest)
    both-once = subst (AllPairs (λ j k. j ≢ k)) keys-whole placed.keys.once

    pub rest-once : AllPairs (λ j k. j ≢ k) (keys_at old rest)
    rest-once = AllPairs-after (λ j k. j ≢ k) (keys_at old (places_at blocks n)) (keys_at old rest) both-once

    -- under the keys that the block has not, the number does not stand
    pub rest-absent : (k : K) → Contains (keys_at old rest) k → Contains (numbers_of eq old k) n → ⊥
    rest-absent k c there =
        AllPairs-across (λ j k. j ≢ k) (keys_at old (places_at blocks n)) (keys_at old rest) both-once k k ((under k).0 there) c refl

    -- and once it does, the postings are those of the blocks with the value
    pub posted-over : (new : List (K × Posting)) (blocks' : List (Option (Entry R ℕ))) → ((k : K) (m : ℕ) → Contains (numbers_of eq new k) m ↔ (Contains (numbers_of eq old k) m ⊎ (Contains (keys_at old rest) k × (m ≡ n))))
        → block_at blocks' n ≡ Some x → ((m : ℕ) → m ≢ n → block_at blocks' m ≡ block_at blocks m) → ArePosted eq (Has has_key) blocks' new
    posted-over new blocks' changed here others = record {
      stands = λ k m. elim (one_or_not m n) as (λ _. Contains (numbers_of eq new k) m ↔ ((e : Entry R ℕ) × (block_at blocks' m ≡ Some e) × has_key e.value k)) [
        | inl same ↦ subst (λ m. Contains (numbers_of eq new k) m ↔ ((e : Entry R ℕ) × (block_at blocks' m ≡ Some e) × has_key e.value k)) (sym same) (at-number k)
        | inr ne ↦ (
          λ c. elim ((changed k m).0 c) as (λ _. (e : Entry R ℕ) × (block_at blocks' m ≡ Some e) × has_key e.value k) [
            | inl before ↦ (let (e, at, has) = (posted.stands k m).0 before in (e, others m ne ∙ at, has))
            | inr (c', same) ↦ absurd (ne same)
          ],
          λ (e, at, has). (changed k m).1 (inl ((posted.stands k m).1 (e, sym (others m ne) ∙ at, has))),
        )
      ];
    }
      where
        at-number : (k : K) → Contains (numbers_of eq new k) n ↔ ((e : Entry R ℕ) × (block_at blocks' n ≡ Some e) × has_key e.value k)
        at-number k = (
          λ c. (
            x,
            here,
            (placed.keys.members k).0 (subst (λ ks. Contains ks k) (sym keys-whole) (elim ((changed k n).0 c) as (λ _. Contains (keys_at old (places_at blocks n) ++ keys_at old rest) k) [
              | inl before ↦ Contains-append_left (keys_at old (places_at blocks n)) (keys_at old rest) k ((under k).0 before)
              | inr (c', same) ↦ Contains-append_right (keys_at old (places_at blocks n)) (keys_at old rest) k c'
            ])),
          ),
          λ (e, at, has).
              let same : e ≡ x = cc in
              (changed k n).1 (elim (Contains-append_cases (keys_at old (places_at blocks n)) (keys_at old rest) k
              (subst (λ ks. Contains ks k) keys-whole ((placed.keys.members k).1 (subst (λ (z : Entry R ℕ). has_key z.value k) same has)))) as (λ _. Contains (numbers_of eq old k) n ⊎ (Contains (keys_at old rest) k × (n ≡ n))) [
                | inl first ↦ inl ((under k).1 first)
                | inr second ↦ inr (second, refl)
              ]),
        )
