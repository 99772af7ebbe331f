-- What a value does not match where it matches none of what is looked at.
use Rattle.std.proofs.Common.{◌≡◌, ℕ, Bool, true, false, List, Option, None, Some, sym, ◌∙◌, ap, refl, subst, true≢false, inl, inr}
use Rattle.std.specs.Prelude.{◌↔◌, All, Contains, IfSome}
use Rattle.std.proofs.lemmas.List.Elements.{All-contains}
use Rattle.merge_laws.proofs.Places.{All-from_members}
use Rattle.swoosh_resolver.specs.Tables.{AreFree, AreSought, Base, Entry, Has, block_at, blocks_in}
use Rattle.swoosh_resolver.specs.Changes.{IsClosed, without}
use Rattle.swoosh_resolver.specs.Looks.{IsFound, IsLook, IsUnder}
use Rattle.swoosh_resolver.proofs.Looking.{failed}
use Rattle.swoosh_resolver.proofs.Places.{block-from_value}

module _ {R K : Type 0} (match : R → R → Bool) (is_posted seeks : R → K → Type 0) (value : R) (base : Option (Base R)) (keys : List K) (sought : AreSought match is_posted seeks value base keys) where
  -- what the value matches, and its base does not
  led : (x : R) → match value x ≡ true → ((b : Base R) → base ≡ Some b → match b.value x ≡ false) → (k : K) × Contains keys k × is_posted x k
  led x matches beside = sought.whole x matches (if-some base beside)
    where
      if-some : (o : Option (Base R)) → ((b : Base R) → o ≡ Some b → match b.value x ≡ false) → IfSome o (λ b. match b.value x ≡ false)
      if-some None h = tt
      if-some (Some b) h = h b refl

  -- of values that stand on no block all are looked at that have a key
  pub All-free : base ≡ None → (numbers : List ℕ) (items : List (Entry R ℕ)) → AreFree items → All (λ e. IsFound is_posted keys numbers e → match value e.value ≡ false) items → All (λ e. match value e.value ≡ false) items
  All-free none numbers items free unmatched =
      All-from_members (λ (e : Entry R ℕ). match value e.value ≡ false) items (λ e c. failed (match value e.value) (λ h.
      let (k, ck, has) = led e.value h (λ b is. absurd (let both : ◌≡◌ {A = Option (Base R)} None (Some b) = sym none ∙ is in cc)) in
      let seen : IsFound is_posted keys numbers e = inl (k, ck, (has, rw (free e c) tt)) in
      true≢false (sym h ∙ All-contains (λ (e : Entry R ℕ). IsFound is_posted keys numbers e → match value e.value ≡ false) items e unmatched c seen)))

  -- of open blocks too
  pub All-kept : (blocks : List (Option (Entry R ℕ))) (closed : List ℕ) → ((b : Base R) → base ≡ Some b → All (λ e. match b.value e.value ≡ false) (blocks_in (without blocks closed)))
      → All (λ e. IsUnder (Has is_posted) keys e → match value e.value ≡ false) (blocks_in (without blocks closed)) → All (λ e. match value e.value ≡ false) (blocks_in (without blocks closed))
  All-kept blocks closed beside unmatched =
      All-from_members (λ (e : Entry R ℕ). match value e.value ≡ false) (blocks_in (without blocks closed)) (λ e c. failed (match value e.value) (λ h.
      let (k, ck, has) = led e.value h (λ b is. All-contains (λ (e : Entry R ℕ). match b.value e.value ≡ false) (blocks_in (without blocks closed)) e (beside b is) c) in
      true≢false (sym h ∙ All-contains (λ (e : Entry R ℕ). IsUnder (Has is_posted) keys e → match value e.value ≡ false) (blocks_in (without blocks closed)) e unmatched c (k, ck, has))))

  module _ (blocks : List (Option (Entry R ℕ))) (closed : List ℕ) (numbers shut : List ℕ)
      (look : IsLook (IsUnder (Has is_posted) keys) blocks numbers) (closes : (n : ℕ) → Contains shut n ↔ (Contains numbers n × Contains closed n))
      (opened : List (Entry R ℕ)) (based : (e : Entry R ℕ) (b : Base R) → Contains opened e → e.base ≡ Some b → IsClosed blocks closed b) where
    -- an opened value that has a key which its base has stands on one of the closed numbers that are looked at
    stands-shut : (e : Entry R ℕ) (b : Base R) → Contains opened e → e.base ≡ Some b → (k : K) → Contains keys k → is_posted b.value k → Contains shut b.number
    stands-shut e b c is k ck has =
        let closed' = based e b c is in
        let (f, at, same) = block-from_value (block_at blocks b.number) b.value (sym closed'.is) in
        (closes b.number).1 ((look.members b.number).1 (f, at, (k, ck, subst (λ v. is_posted v k) same has)), closed'.closes)

    -- so all opened values are looked at that the value may match
    pub All-opened : ((b : Base R) → base ≡ Some b → All (λ e. match b.value e.value ≡ false) opened)
        → All (λ e. IsFound is_posted keys shut e → match value e.value ≡ false) opened → All (λ e. match value e.value ≡ false) opened
    All-opened beside unmatched =
        All-from_members (λ (e : Entry R ℕ). match value e.value ≡ false) opened (λ e c. failed (match value e.value) (λ h.
        let (k, ck, has) = led e.value h (λ b is. All-contains (λ (e : Entry R ℕ). match b.value e.value ≡ false) opened e (beside b is) c) in
        let unseen : IsFound is_posted keys shut e → ⊥ = λ seen. true≢false (sym h ∙ All-contains (λ (e : Entry R ℕ). IsFound is_posted keys shut e → match value e.value ≡ false) opened e unmatched c seen) in
        hidden e c k ck has unseen e.base refl))
      where
        hidden : (e : Entry R ℕ) → Contains opened e → (k : K) → Contains keys k → is_posted e.value k → (IsFound is_posted keys shut e → ⊥) → (o : Option (Base R)) → e.base ≡ o → ⊥
        hidden e c k ck has unseen None is = unseen (inl (k, ck, (has, rw is tt)))
        hidden e c k ck has unseen (Some b) is =
            let out : is_posted b.value k → ⊥ = λ had. unseen (inr (b, is, stands-shut e b c is k ck had)) in
            unseen (inl (k, ck, (has, rw is out)))

    -- and the block has a key that the value seeks on which one stands that is looked at
    pub led-keys : (e : Entry R ℕ) (b : Base R) → Contains opened e → e.base ≡ Some b → Contains shut b.number → (k : K) × Contains keys k × is_posted b.value k
    led-keys e b c is there =
        let closed' = based e b c is in
        let (f, at, (k, ck, has)) = (look.members b.number).0 ((closes b.number).0 there).0 in
        let (f', at', same) = block-from_value (block_at blocks b.number) b.value (sym closed'.is) in
        let one : f ≡ f' = cc in
        (k, ck, subst (λ v. is_posted v k) (ap (λ (z : Entry R ℕ). z.value) one ∙ sym same) has)
