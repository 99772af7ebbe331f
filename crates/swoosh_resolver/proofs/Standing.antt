-- Which closed blocks a value may stand on, once a member of the view is taken out.
use Rattle.std.proofs.Common.{◌≡◌, ℕ, Bool, true, false, IsTrue, List, [], ◌∷◌, ◌++◌, Option, None, Some, sym, ◌∙◌, ap, subst, inl, inr}
use Rattle.std.specs.Prelude.{◌⊎◌, All, Contains, IfSome, option_map}
use Rattle.std.specs.List.Sorted.{IsPermutation}
use Rattle.std.proofs.lemmas.List.Elements.{All-contains, Contains-append_left, Contains-push}
use Rattle.std.proofs.lemmas.List.Sorted.{Contains-permutation, IsPermutation-sym}
use Rattle.merge_laws.specs.Resolution.{JoinLaws, MatchLaws, AreApart, DoNotMatch}
use Rattle.merge_laws.proofs.Places.{All-from_members, AllPairs-first, AllPairs-permutation, Contains-head, Contains-tail}
use Rattle.swoosh_resolver.specs.Tables.{Base, Entry, block_at}
use Rattle.swoosh_resolver.specs.Changes.{CanStand, Fits, IsClosed, StandApart, view_of, without}
use Rattle.swoosh_resolver.proofs.Looking.{failed}
use Rattle.swoosh_resolver.proofs.Places.{block-closed, block-from_open}
use Rattle.swoosh_resolver.proofs.Views.{alone-taken, taken-fresh, taken-kept}

module _ {R K : Type 0} (match : R → R → Bool) (blocks : List (Option (Entry R K))) (closed : List ℕ) (opened : List (Entry R K)) where
  -- on no block a value may always stand
  pub can-none : CanStand match blocks closed opened None
  can-none = record {
    closes = λ b is. absurd cc;
    free = λ b is e a c is'. absurd cc;
    beside = λ b is. absurd cc;
  }

  -- on no block, or on one on which another may stand
  pub can-either : {base base' : Option (Base R)} → (base ≡ None) ⊎ (base ≡ base') → CanStand match blocks closed opened base' → CanStand match blocks closed opened base
  can-either {base} {base'} either can = elim either as (λ _. CanStand match blocks closed opened base) [
    | inl none ↦ subst (CanStand match blocks closed opened) (sym none) can-none
    | inr same ↦ subst (CanStand match blocks closed opened) (sym same) can
  ]

  -- a member of a list matches none of the others, where no two match
  unmatched : (v : R) (rest : List R) → IsPermutation (view_of blocks closed opened) (v ∷ rest) → AreApart match (view_of blocks closed opened) → (w : R) → Contains rest w → IsTrue (match v w) → ⊥
  unmatched v rest p apart w c =
      (AllPairs-first (DoNotMatch match) v rest (AllPairs-permutation (DoNotMatch match) (λ x y h. (h.1, h.0)) (view_of blocks closed opened) (v ∷ rest) p apart) w c).0

  module _ (fits : Fits match blocks closed opened) where
    -- on an open block, once it is closed
    pub can-kept : (n : ℕ) (e : Entry R K) → block_at (without blocks closed) n ≡ Some e → CanStand match blocks (closed ++ n ∷ []) opened (Some (record { number = n; value = e.value }))
    can-kept n e stands = record {
      closes = λ b is. subst (IsClosed blocks (closed ++ n ∷ [])) (one b is) (record {
        closes = Contains-push closed n;
        is = ap (option_map (λ (f : Entry R K). f.value)) (block-from_open closed blocks n e stands);
      });
      free = λ b is f a c is' same.
          let here : b.number ≡ n = ap (λ (z : Base R). z.number) (sym (one b is)) in
          let none : block_at (without blocks closed) n ≡ None = block-closed closed blocks n (subst (Contains closed) (same ∙ here) (fits.based f a c is').closes) in
          cc;
      beside = λ b is. All-from_members (λ w. match b.value w ≡ false) (view_of blocks (closed ++ n ∷ []) opened)
          (λ w c. failed (match b.value w) (λ h. unmatched e.value (view_of blocks (closed ++ n ∷ []) opened) (taken-kept blocks closed opened n e stands) fits.apart w c
          (subst (λ (z : Base R). match z.value w ≡ true) (sym (one b is)) h)));
    }
      where
        one : (b : Base R) → ◌≡◌ {A = Option (Base R)} (Some (record { number = n; value = e.value })) (Some b) → ◌≡◌ {A = Base R} (record { number = n; value = e.value }) b
        one b is = cc

    -- on the block on which a value stood that is taken out
    pub can-fresh : {merge : R → R → R} (laws : MatchLaws match merge) (e : Entry R K) (rest : List (Entry R K)) → IsPermutation opened (e ∷ rest) → IfSome e.base (λ b. merge b.value e.value ≡ e.value) → CanStand match blocks closed rest e.base
    can-fresh {merge} laws e rest taken absorbs = record {
      closes = λ b is. fits.based e b (Contains-permutation (e ∷ rest) opened e (IsPermutation-sym opened (e ∷ rest) taken) (Contains-head e rest)) is;
      free = λ b is f a c is' same. AllPairs-first StandApart e rest (alone-taken blocks closed opened fits e rest taken) f c b a is is' (sym same);
      beside = λ b is. All-from_members (λ w. match b.value w ≡ false) (view_of blocks closed rest)
          (λ w c. failed (match b.value w) (λ h. unmatched e.value (view_of blocks closed rest) (taken-fresh blocks closed opened e rest taken) fits.apart w c
          (laws.symmetric w e.value (subst (λ z. IsTrue (match w z)) (rw is at absorbs) (laws.representative w b.value e.value (laws.symmetric b.value w h))))));
    }

  module _ (base : Option (Base R)) (can : CanStand match blocks closed opened base) where
    fewer : (v : R) (rest : List R) → IsPermutation (view_of blocks closed opened) (v ∷ rest) → (b : Base R) → base ≡ Some b → All (λ w. match b.value w ≡ false) rest
    fewer v rest p b is = All-from_members (λ w. match b.value w ≡ false) rest
        (λ w c. All-contains (λ w. match b.value w ≡ false) (view_of blocks closed opened) w (can.beside b is)
        (Contains-permutation (v ∷ rest) (view_of blocks closed opened) w (IsPermutation-sym (view_of blocks closed opened) (v ∷ rest) p) (Contains-tail v rest w c)))

    -- on the block that it had, also once a block is closed
    pub can-still_kept : (n : ℕ) (e : Entry R K) → block_at (without blocks closed) n ≡ Some e → CanStand match blocks (closed ++ n ∷ []) opened base
    can-still_kept n e stands = record {
      closes = λ b is. (let old = can.closes b is in record { closes = Contains-append_left closed (n ∷ []) b.number old.closes; is = old.is });
      free = can.free;
      beside = fewer e.value (view_of blocks (closed ++ n ∷ []) opened) (taken-kept blocks closed opened n e stands);
    }

    -- and once an opened value is taken out
    pub can-still_fresh : (e : Entry R K) (rest : List (Entry R K)) → IsPermutation opened (e ∷ rest) → CanStand match blocks closed rest base
    can-still_fresh e rest taken = record {
      closes = can.closes;
      free = λ b is f a c. can.free b is f a (Contains-permutation (e ∷ rest) opened f (IsPermutation-sym opened (e ∷ rest) taken) (Contains-tail e rest f c));
      beside = fewer e.value (view_of blocks closed rest) (taken-fresh blocks closed opened e rest taken);
    }

-- a merge may stand on the block that was merged into it, or on that on which the value stood
module _ {R K : Type 0} (match : R → R → Bool) (blocks : List (Option (Entry R K))) (closed : List ℕ) (opened : List (Entry R K)) (fits : Fits match blocks closed opened) (base : Option (Base R)) (can : CanStand match blocks closed opened base) where
  pub can-merged_kept : (n : ℕ) (e : Entry R K) (v : R) → block_at (without blocks closed) n ≡ Some e → v ≡ e.value → (base' : Option (Base R)) → (base' ≡ Some (record { number = n; value = v })) ⊎ (base' ≡ base)
      → CanStand match blocks (closed ++ n ∷ []) opened base'
  can-merged_kept n e v stands is base' either = elim either as (λ _. CanStand match blocks (closed ++ n ∷ []) opened base') [
    | inl new ↦ rw (new, is) (can-kept match blocks closed opened fits n e stands)
    | inr old ↦ rw old (can-still_kept match blocks closed opened base can n e stands)
  ]

  pub can-merged_fresh : {merge : R → R → R} (laws : MatchLaws match merge) (e : Entry R K) (rest : List (Entry R K)) → IsPermutation opened (e ∷ rest) → IfSome e.base (λ b. merge b.value e.value ≡ e.value) → (base' : Option (Base R)) → (base' ≡ e.base) ⊎ (base' ≡ base)
      → CanStand match blocks closed rest base'
  can-merged_fresh laws e rest taken absorbs base' either = elim either as (λ _. CanStand match blocks closed rest base') [
    | inl new ↦ rw new (can-fresh match blocks closed opened fits laws e rest taken absorbs)
    | inr old ↦ rw old (can-still_fresh match blocks closed opened base can e rest taken)
  ]

-- what a base has is in all that comes of its value
module _ {R : Type 0} {merge : R → R → R} (join : JoinLaws merge) where
  pub absorbs-left : (base : Option (Base R)) (other value : R) → IfSome base (λ b. merge b.value other ≡ other) → IfSome base (λ b. merge b.value (merge other value) ≡ merge other value)
  absorbs-left None other value h = tt
  absorbs-left (Some b) other value h = sym (join.associative b.value other value) ∙ ap (λ z. merge z value) h

  pub absorbs-right : (base : Option (Base R)) (other value : R) → IfSome base (λ b. merge b.value value ≡ value) → IfSome base (λ b. merge b.value (merge other value) ≡ merge other value)
  absorbs-right None other value h = tt
  absorbs-right (Some b) other value h =
      ap (merge b.value) (join.commutative other value) ∙ sym (join.associative b.value value other) ∙ ap (λ z. merge z other) h ∙ join.commutative value other
