-- Where opened values stand: the places of the blocks under their numbers.
use Rattle.std.proofs.Common.{◌≡◌, ℕ, zero, suc, ◌+◌, ◌<◌, Bool, List, [], ◌∷◌, ◌++◌, Option, None, Some, length, get_or, take, drop, map, refl, sym, ◌∙◌, ap, subst, inl, inr, arith}
use Rattle.std.specs.Prelude.{◌⊎◌, Contains, IsSome}
use Rattle.std.proofs.Math.Seq.{drop-append_seam, take-append_seam}
use Rattle.std.proofs.lemmas.List.{get_or_default, get_or_past}
use Rattle.feature_index.specs.Postings.{Posting, key_at}
use Rattle.merge_laws.proofs.Places.{Contains-head, Contains-tail}
use Rattle.swoosh_resolver.specs.Tables.{ArePlaced, Base, Entry, HasOwn, IsPlaced, block_at, blocks_in, places_at, standings_of}
use Rattle.swoosh_resolver.specs.Changes.{AreGiven, AreVacated, Fits, added, base_places, whole_at, without}
use Rattle.swoosh_resolver.proofs.Giving.{based-or_not}
use Rattle.swoosh_resolver.proofs.Installing.{block-among}
use Rattle.swoosh_resolver.proofs.Places.{block-closed, block-from_value, block-kept, length-without}

-- once the vacated blocks are taken out, under the number of an opened value stands its base, or nothing
pub record AreAtSeats {R : Type 0} (blocks left : List (Option (Entry R ℕ))) (opened : List (Entry R ℕ)) (numbers : List ℕ) : Type 0 where
  pub at : (i : ℕ) (e : Entry R ℕ) → i < length opened → get_or opened i e ≡ e → places_at left (get_or numbers i 0) ≡ base_places blocks e.base

module _ {R : Type 0} (blocks : List (Option (Entry R ℕ))) where
  none-places : (left : List (Option (Entry R ℕ))) (n : ℕ) → block_at left n ≡ None → places_at left n ≡ []
  none-places left n is = rw is refl

  pub at-seats : (closed vacated : List ℕ) (opened : List (Entry R ℕ)) (numbers : List ℕ) → AreVacated closed opened vacated → AreGiven vacated (length blocks) opened numbers
      → AreAtSeats blocks (without blocks vacated) opened numbers
  at-seats closed vacated opened numbers left given = record {
    at = λ i e il at. elim (based-or_not e.base) as (λ _. places_at (without blocks vacated) (get_or numbers i 0) ≡ base_places blocks e.base) [
      | inl (b, is) ↦
          (let here : get_or numbers i 0 ≡ b.number = given.seated.seated i e b il at is in
          let stays : block_at (without blocks vacated) b.number ≡ block_at blocks b.number = block-kept vacated blocks b.number (λ c. left.free b.number c (e, b, (i, il, at), is, refl)) in
          rw (is, here, stays) refl)
      | inr none ↦ rw none (none-places (without blocks vacated) (get_or numbers i 0) (elim (given.fresh i e il at none) as (λ _. block_at (without blocks vacated) (get_or numbers i 0) ≡ None) [
        | inl free ↦ block-closed vacated blocks (get_or numbers i 0) free
        | inr new ↦ (let len = length-without vacated blocks in get_or_past (without blocks vacated) (get_or numbers i 0) None (omega arith))
      ]))
    ];
  }

-- values that stand on the same blocks are at the same seats
module _ {R : Type 0} where
  same-at : (xs ys : List (Entry R ℕ)) → standings_of xs ≡ standings_of ys → (i : ℕ) (e : Entry R ℕ) → i < length xs → get_or xs i e ≡ e
      → (f : Entry R ℕ) × (i < length ys) × (get_or ys i f ≡ f) × (f.base ≡ e.base)
  same-at [] ys same i e h at = absurd (omega arith)
  same-at (x ∷ xs) [] same i e h at = absurd cc
  same-at (x ∷ xs) (y ∷ ys) same zero e h at = let both : ◌≡◌ {A = R × Option (Base R)} (x.value, x.base) (y.value, y.base) = cc in (y, omega arith, refl, ap (λ (p : R × Option (Base R)). p.1) (sym both) ∙ ap (λ (z : Entry R ℕ). z.base) at)
  same-at (x ∷ xs) (y ∷ ys) same (suc i) e h at =
      let rest : standings_of xs ≡ standings_of ys = cc in
      let (f, fl, is, base) = same-at xs ys rest i e (omega arith) at in
      (f, omega arith, is, base)

  pub seats-same : (blocks left : List (Option (Entry R ℕ))) (opened moved : List (Entry R ℕ)) (numbers : List ℕ) → standings_of moved ≡ standings_of opened
      → AreAtSeats blocks left opened numbers → AreAtSeats blocks left moved numbers
  seats-same blocks left opened moved numbers same seats = record {
    at = λ i e il at.
        let (f, fl, is, base) = same-at moved opened same i e il at in
        seats.at i f fl is ∙ ap (base_places blocks) base;
  }

  pub values-same : (xs ys : List (Entry R ℕ)) → standings_of xs ≡ standings_of ys → map (λ e. e.value) xs ≡ map (λ e. e.value) ys
  values-same [] [] same = refl
  values-same [] (y ∷ ys) same = absurd cc
  values-same (x ∷ xs) [] same = absurd cc
  values-same (x ∷ xs) (y ∷ ys) same =
      let both : ◌≡◌ {A = R × Option (Base R)} (x.value, x.base) (y.value, y.base) = cc in
      let rest : standings_of xs ≡ standings_of ys = cc in
      (λ i. (both i).0 ∷ values-same xs ys rest i)

  -- what stands on a block in one list does in the other
  pub stood-same : (xs ys : List (Entry R ℕ)) → standings_of xs ≡ standings_of ys → (e : Entry R ℕ) → Contains xs e → (f : Entry R ℕ) × Contains ys f × (f.base ≡ e.base)
  stood-same xs ys same e (i, il, at) = let (f, fl, is, base) = same-at xs ys same i e il at in (f, (i, fl, is), base)

  module _ (blocks left : List (Option (Entry R ℕ))) where
    pub whole-values : (moved : List (Entry R ℕ)) → map (λ e. e.value) (map (whole_at blocks) moved) ≡ map (λ e. e.value) moved
    whole-values [] = refl
    whole-values (e ∷ es) = ap (λ vs. e.value ∷ vs) (whole-values es)

    pub whole-free : (moved : List (Entry R ℕ)) (e : Entry R ℕ) → Contains (map (whole_at blocks) moved) e → e.base ≡ None
    whole-free [] e (i, il, is) = absurd (omega arith)
    whole-free (x ∷ xs) e (zero, il, is) = ap (λ (z : Entry R ℕ). z.base) (sym is)
    whole-free (x ∷ xs) e (suc i, il, is) = whole-free xs e (i, omega arith, is)

    -- the places of each value begin with those of the block under its number
    pub whole-starts : (moved : List (Entry R ℕ)) (numbers : List ℕ) → AreAtSeats blocks left moved numbers → (i : ℕ) (e : Entry R ℕ) → i < length (map (whole_at blocks) moved) → get_or (map (whole_at blocks) moved) i e ≡ e
        → places_at left (get_or numbers i 0) ≡ take (length (places_at left (get_or numbers i 0))) e.keys
    whole-starts [] numbers seats i e il at = absurd (omega arith)
    whole-starts (x ∷ xs) numbers seats zero e il at =
        let here : places_at left (get_or numbers 0 0) ≡ base_places blocks x.base = seats.at 0 x (omega arith) refl in
        let keys : base_places blocks x.base ++ x.keys ≡ e.keys = ap (λ (z : Entry R ℕ). z.keys) at in
        rw (here, ← keys) (sym (take-append_seam (base_places blocks x.base) x.keys))
    whole-starts (x ∷ xs) [] seats (suc i) e il at =
        whole-starts xs [] (record { at = λ j f jl is. seats.at (suc j) f (omega arith) is }) i e (omega arith) at
    whole-starts (x ∷ xs) (n ∷ ns) seats (suc i) e il at =
        whole-starts xs ns (record { at = λ j f jl is. seats.at (suc j) f (omega arith) is }) i e (omega arith) at

    -- and go on with those of its own keys
    pub whole-added : (moved : List (Entry R ℕ)) (numbers : List ℕ) → length numbers ≡ length moved → AreAtSeats blocks left moved numbers → added left (map (whole_at blocks) moved) numbers ≡ map (λ e. e.keys) moved
    whole-added [] numbers len seats = refl
    whole-added (x ∷ xs) [] len seats = absurd (omega arith)
    whole-added (x ∷ xs) (n ∷ ns) len seats =
        let here : places_at left n ≡ base_places blocks x.base = seats.at 0 x (omega arith) refl in
        let own : drop (length (places_at left n)) (base_places blocks x.base ++ x.keys) ≡ x.keys = rw here (drop-append_seam (base_places blocks x.base) x.keys) in
        (λ i. own i ∷ whole-added xs ns (omega arith) (record { at = λ j f jl is. seats.at (suc j) f (omega arith) is }) i)

-- lengths stay
pub same-length : {R : Type 0} (xs ys : List (Entry R ℕ)) → standings_of xs ≡ standings_of ys → length xs ≡ length ys
same-length [] [] same = refl
same-length [] (y ∷ ys) same = absurd cc
same-length (x ∷ xs) [] same = absurd cc
same-length (x ∷ xs) (y ∷ ys) same = let rest : standings_of xs ≡ standings_of ys = cc in ap suc (same-length xs ys rest)

pub whole-length : {R : Type 0} (blocks : List (Option (Entry R ℕ))) (moved : List (Entry R ℕ)) → length (map (whole_at blocks) moved) ≡ length moved
whole-length blocks [] = refl
whole-length blocks (e ∷ es) = ap suc (whole-length blocks es)

-- the rows at the places of the values' own keys are there
pub own-rows : {R K : Type 0} (has_key : R → K → Type 0) (postings : List (K × Posting)) (moved : List (Entry R ℕ)) → ArePlaced (HasOwn has_key) postings moved
    → (places : List ℕ) → Contains (map (λ e. e.keys) moved) places → (place : ℕ) → Contains places place → IsSome (key_at postings place)
own-rows has_key postings [] placed places (i, il, is) place c = absurd (omega arith)
own-rows has_key postings (x ∷ xs) placed places (zero, il, is) place c = (placed x (Contains-head x xs)).rows place (subst (λ ps. Contains ps place) (sym is) c)
own-rows has_key postings (x ∷ xs) placed places (suc i, il, is) place c = own-rows has_key postings xs (λ f c'. placed f (Contains-tail x xs f c')) places (i, omega arith, is) place c

-- the block on which a value stands has the places of its keys
pub base-placed : {R K : Type 0} {match : R → R → Bool} (has_key : R → K → Type 0) (blocks : List (Option (Entry R ℕ))) (closed : List ℕ) (opened moved : List (Entry R ℕ)) → standings_of moved ≡ standings_of opened
    → Fits match blocks closed opened → (postings : List (K × Posting)) → ((e : Entry R ℕ) → Contains (blocks_in blocks) e → IsPlaced (has_key e.value) postings e.keys)
    → (e : Entry R ℕ) (b : Base R) → Contains moved e → e.base ≡ Some b → IsPlaced (has_key b.value) postings (places_at blocks b.number)
base-placed has_key blocks closed opened moved same fits postings placed e b c is =
    let (f, cf, base) = stood-same moved opened same e c in
    let closed' = fits.based f b cf (base ∙ is) in
    let (x, at, value) = block-from_value (block_at blocks b.number) b.value (sym closed'.is) in
    rw at (subst (λ v. IsPlaced (has_key v) postings x.keys) (sym value) (placed x (block-among blocks b.number x at)))

-- a closed number is vacated or given
pub closed-covered : {R K : Type 0} (closed vacated : List ℕ) (opened : List (Entry R K)) (numbers : List ℕ) (first : ℕ) → AreVacated closed opened vacated → AreGiven vacated first opened numbers
    → (n : ℕ) → Contains closed n → Contains vacated n ⊎ Contains numbers n
closed-covered closed vacated opened numbers first left given n c = elim (left.whole n c) as (λ _. Contains vacated n ⊎ Contains numbers n) [
  | inl free ↦ inl free
  | inr (e, b, (i, il, at), is, same) ↦ inr (i, let len = given.len in omega arith, get_or_default numbers i n 0 (let len = given.len in omega arith) ∙ given.seated.seated i e b il at is ∙ same)
]
