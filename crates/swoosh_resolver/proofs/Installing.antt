-- Opened values that are put under their numbers.
use Rattle.std.proofs.Common.{◌≡◌, ◌≢◌, ℕ, zero, suc, ◌+◌, ◌<◌, ◌≤◌, true, false, eqb, List, [], ◌∷◌, ◌++◌, Option, None, Some, length, length-append, get_or, take, drop, append-nil, refl, sym, ◌∙◌, ap, subst, inl, inr, arith}
use Rattle.std.specs.Prelude.{◌⊎◌, AllPairs, Contains, IsSome, slice_set}
use Rattle.std.specs.List.{list_any}
use Rattle.std.specs.List.Sorted.{IsPermutation}
use Rattle.std.proofs.Math.Decide.{dec_lt}
use Rattle.std.proofs.lemmas.List.{get_or_past, get_or-set_other, take-append-drop, take_more}
use Rattle.std.proofs.lemmas.List.Elements.{Contains-append_left, Contains-append_right, Contains-get_or, Contains-push}
use Rattle.std.proofs.lemmas.List.Sorted.{Contains-permutation, IsPermutation-refl, IsPermutation-sym, IsPermutation-cons, IsPermutation-trans, IsPermutation-middle}
use Rattle.merge_laws.proofs.Places.{AllPairs-first, AllPairs-rest, Contains-head, Contains-tail}
use Rattle.feature_index.specs.Postings.{Posting, key_at}
use Rattle.swoosh_resolver.specs.Tables.{Entry, IsPlaced, block_at, blocks_in, places_at}
use Rattle.swoosh_resolver.specs.Changes.{AreNumbers, AreOpened, added, without}
use Rattle.swoosh_resolver.proofs.Opening.{one_or_not, pushed-before, pushed-last, within-from_some}
use Rattle.swoosh_resolver.proofs.Places.{block-closed, block-from_open, block-kept, closed-from_found, number-from_block, open-from_missed, taken-from_set}

-- a number is in the list, or is not
pub there_or_not : (numbers : List ℕ) (n : ℕ) → Contains numbers n ⊎ (Contains numbers n → ⊥)
there_or_not numbers n =
    elim (list_any (λ y. eqb y n) numbers) as (λ b. list_any (λ y. eqb y n) numbers ≡ b → Contains numbers n ⊎ (Contains numbers n → ⊥)) [
      | true ↦ λ is. inl (closed-from_found numbers n is)
      | false ↦ λ is. inr (open-from_missed numbers n is)
    ] refl

module _ {X : Type 0} where
  -- a block is among the blocks
  pub block-among : (blocks : List (Option X)) (n : ℕ) (x : X) → block_at blocks n ≡ Some x → Contains (blocks_in blocks) x
  block-among blocks n x at =
      let left = blocks_in (slice_set blocks n None) in
      Contains-permutation (x ∷ left) (blocks_in blocks) x (IsPermutation-sym (blocks_in blocks) (x ∷ left) (taken-from_set blocks n x at)) (Contains-head x left)

  -- blocks that stand under the same numbers are the same
  none-in : (blocks : List (Option X)) → ((n : ℕ) → block_at blocks n ≡ None) → blocks_in blocks ≡ []
  none-in [] none = refl
  none-in (None ∷ bs) none = none-in bs (λ n. none (suc n))
  none-in (Some x ∷ bs) none = absurd (let e = none 0 in cc)

  pub blocks-same : (L M : List (Option X)) → ((n : ℕ) → block_at L n ≡ block_at M n) → blocks_in L ≡ blocks_in M
  blocks-same [] M same = sym (none-in M (λ n. sym (same n)))
  blocks-same (b ∷ bs) [] same = none-in (b ∷ bs) same
  blocks-same (None ∷ bs) (None ∷ cs) same = blocks-same bs cs (λ n. same (suc n))
  blocks-same (None ∷ bs) (Some y ∷ cs) same = absurd (let e = same 0 in cc)
  blocks-same (Some x ∷ bs) (None ∷ cs) same = absurd (let e = same 0 in cc)
  blocks-same (Some x ∷ bs) (Some y ∷ cs) same = let e : x ≡ y = (let e' = same 0 in cc) in (λ i. e i ∷ blocks-same bs cs (λ n. same (suc n)) i)

  -- the blocks are those that stood before and the opened ones
  pub opened-view : (start : List (Option X)) (numbers : List ℕ) (opened : List X) (blocks' : List (Option X)) → length numbers ≡ length opened → AllPairs (λ m n. m ≢ n) numbers
      → ((n : ℕ) → Contains numbers n → block_at start n ≡ None) → AreOpened start numbers opened blocks' → IsPermutation (blocks_in start ++ opened) (blocks_in blocks')
  opened-view start [] [] blocks' len distinct free are =
      let same : blocks_in blocks' ≡ blocks_in start = blocks-same blocks' start (λ n. are.others n (λ (i, il, e). omega arith)) in
      rw (append-nil (blocks_in start), same) (IsPermutation-refl (blocks_in start))
  opened-view start [] (x ∷ xs) blocks' len distinct free are = absurd (omega arith)
  opened-view start (n ∷ ns) [] blocks' len distinct free are = absurd (omega arith)
  opened-view start (n ∷ ns) (x ∷ xs) blocks' len distinct free are =
      let rest = slice_set blocks' n None in
      let here : block_at blocks' n ≡ Some x = are.stand 0 x (omega arith) refl in
      let apart : (m : ℕ) → Contains ns m → m ≢ n = λ m c same. AllPairs-first (λ m n. m ≢ n) n ns distinct m c (sym same) in
      let later : AreOpened start ns xs rest = record {
        stand = λ i y il e.
            let len' : length ns ≡ length xs = omega arith in
            get_or-set_other blocks' n (get_or ns i 0) None None (apart (get_or ns i 0) (Contains-get_or ns i 0 (omega arith))) ∙ are.stand (suc i) y (omega arith) e;
        others = λ m out. elim (one_or_not m n) as (λ _. block_at rest m ≡ block_at start m) [
          | inl same ↦ rw same (emptied blocks' n ∙ sym (free n (Contains-head n ns)))
          | inr ne ↦ get_or-set_other blocks' n m None None ne ∙ are.others m (λ c. in-tail m ne out c)
        ];
      } in
      let inner = opened-view start ns xs rest (omega arith) (AllPairs-rest (λ m n. m ≢ n) n ns distinct) (λ m c. free m (Contains-tail n ns m c)) later in
      IsPermutation-trans (blocks_in start ++ x ∷ xs) (x ∷ blocks_in start ++ xs) (blocks_in blocks')
      (IsPermutation-middle (blocks_in start) x xs)
      (IsPermutation-trans (x ∷ blocks_in start ++ xs) (x ∷ blocks_in rest) (blocks_in blocks')
      (IsPermutation-cons x (blocks_in start ++ xs) (blocks_in rest) inner)
      (IsPermutation-sym (blocks_in blocks') (x ∷ blocks_in rest) (taken-from_set blocks' n x here)))
    where
      emptied : (L : List (Option X)) (m : ℕ) → block_at (slice_set L m None) m ≡ None
      emptied [] m = refl
      emptied (b ∷ bs) zero = refl
      emptied (b ∷ bs) (suc m) = emptied bs m

      in-tail : (m : ℕ) → m ≢ n → (Contains ns m → ⊥) → Contains (n ∷ ns) m → ⊥
      in-tail m ne out (zero, il, e) = ne (sym e)
      in-tail m ne out (suc i, il, e) = out (i, omega arith, e)

  -- values that are put one after the other
  pub opened_none : (start : List (Option X)) → AreOpened start [] [] start
  opened_none start = record { stand = λ i x il. absurd (omega arith); others = λ n out. refl }

  pub opened_more : (start : List (Option X)) (numbers : List ℕ) (done : List X) (now now' : List (Option X)) (x : X) → length done < length numbers → AllPairs (λ m n. m ≢ n) numbers
      → AreOpened start (take (length done) numbers) done now → block_at now' (get_or numbers (length done) 0) ≡ Some x → ((m : ℕ) → m ≢ get_or numbers (length done) 0 → block_at now' m ≡ block_at now m)
      → AreOpened start (take (length done + 1) numbers) (done ++ x ∷ []) now'
  opened_more start numbers done now now' x less distinct are here others =
      let d = length done in
      let n = get_or numbers d 0 in
      let before = take d numbers in
      let longer : take (d + 1) numbers ≡ before ++ n ∷ [] = take_more numbers d 0 less in
      let len : length before ≡ d = length-taken numbers d (omega arith) in
      let total = length-append done (x ∷ []) in
      rw longer (record {
        stand = λ i y il e. elim (dec_lt i d) as (λ _. block_at now' (get_or (before ++ n ∷ []) i 0) ≡ Some y) [
          | yes old ↦
              (let at : get_or (before ++ n ∷ []) i 0 ≡ get_or before i 0 = pushed-before before n i 0 (omega arith) in
              let same : get_or before i 0 ≡ get_or numbers i 0 = taken-at numbers d i old in
              rw at (others (get_or before i 0) (λ e'. distinct i d 0 old less (sym same ∙ e')) ∙ are.stand i y old (sym (pushed-before done x i y old) ∙ e)))
          | no new ↦
              (let last : i ≡ length before = omega arith in
              let last' : i ≡ length done = omega arith in
              let this : x ≡ y = sym (pushed-last done x y) ∙ (let e' : get_or (done ++ x ∷ []) (length done) y ≡ y = rw last' at e in e') in
              rw (last, ← this) (ap (block_at now') (pushed-last before n 0) ∙ here))
        ];
        others = λ m out. others m (λ same. out (subst (Contains (before ++ n ∷ [])) (sym same) (Contains-push before n))) ∙ are.others m (λ c. out (Contains-append_left before (n ∷ []) m c));
      })
    where
      length-taken : (ms : List ℕ) (d : ℕ) → d ≤ length ms → length (take d ms) ≡ d
      length-taken ms zero h = refl
      length-taken [] (suc d) h = absurd (omega arith)
      length-taken (m ∷ ms) (suc d) h = ap suc (length-taken ms d (omega arith))

      taken-at : (ms : List ℕ) (d i : ℕ) → i < d → get_or (take d ms) i 0 ≡ get_or ms i 0
      taken-at ms zero i h = absurd (omega arith)
      taken-at [] (suc d) i h = refl
      taken-at (m ∷ ms) (suc d) zero h = refl
      taken-at (m ∷ ms) (suc d) (suc i) h = taken-at ms d i (omega arith)

  -- nothing stands under the next number yet but what stood at first
  pub next-stands : (start : List (Option X)) (numbers : List ℕ) (d : ℕ) (done : List X) (now : List (Option X)) → d < length numbers → AllPairs (λ m n. m ≢ n) numbers → AreOpened start (take d numbers) done now
      → block_at now (get_or numbers d 0) ≡ block_at start (get_or numbers d 0)
  next-stands start numbers d done now less distinct are = are.others (get_or numbers d 0) (λ c. before numbers d distinct less c)
    where
      before : (ms : List ℕ) (d : ℕ) → AllPairs (λ m n. m ≢ n) ms → d < length ms → Contains (take d ms) (get_or ms d 0) → ⊥
      before ms zero once h (i, il, e) = omega arith
      before [] (suc d) once h c = omega arith
      before (m ∷ ms) (suc d) once h (zero, il, e) = AllPairs-first (λ m n. m ≢ n) m ms once (get_or ms d 0) (Contains-get_or ms d 0 (omega arith)) e
      before (m ∷ ms) (suc d) once h (suc i, il, e) = before ms d (AllPairs-rest (λ m n. m ≢ n) m ms once) (omega arith) (i, omega arith, e)

module _ {X : Type 0} (blocks : List (Option X)) (closed vacated numbers : List ℕ) (opened : List X) (given : AreNumbers closed (length blocks) (length opened) numbers)
    (named : (n : ℕ) → Contains closed n → IsSome (block_at blocks n)) where
  -- a block that is not closed keeps its number
  pub kept-number : (blocks' : List (Option X)) → AreOpened (without blocks closed) numbers opened blocks' → (n : ℕ) (x : X) → block_at blocks n ≡ Some x → (Contains closed n → ⊥) → block_at blocks' n ≡ Some x
  kept-number blocks' are n x at open' =
      are.others n (λ c. elim (given.each n c) as (λ _. ⊥) [
        | inl there ↦ open' there
        | inr new ↦ (let within = within-from_some blocks n (rw at refl) in omega arith)
      ]) ∙ block-kept closed blocks n open' ∙ at

  -- under a number that is given stands no block that is not closed
  pub given-free : (n : ℕ) → Contains numbers n → block_at (without blocks closed) n ≡ None
  given-free n c = elim (given.each n c) as (λ _. block_at (without blocks closed) n ≡ None) [
    | inl there ↦ block-closed closed blocks n there
    | inr new ↦ elim (there_or_not closed n) as (λ _. block_at (without blocks closed) n ≡ None) [
      | inl there ↦ block-closed closed blocks n there
      | inr out ↦ block-kept closed blocks n out ∙ get_or_past blocks n None new
    ]
  ]

  pub free-or_closed : (n : ℕ) → Contains numbers n → Contains closed n ⊎ (block_at blocks n ≡ None)
  free-or_closed n c = elim (given.each n c) as (λ _. Contains closed n ⊎ (block_at blocks n ≡ None)) [
    | inl there ↦ inl there
    | inr new ↦ inr (get_or_past blocks n None new)
  ]

  -- what is opened over the blocks that are not vacated is opened over those that are not closed
  pub opened-over : (start blocks' : List (Option X)) → ((n : ℕ) → block_at start n ≡ block_at (without blocks vacated) n) → ((n : ℕ) → Contains vacated n → Contains closed n)
      → ((n : ℕ) → Contains closed n → Contains vacated n ⊎ Contains numbers n) → AreOpened start numbers opened blocks' → AreOpened (without blocks closed) numbers opened blocks'
  opened-over start blocks' same vacates covers are = record {
    stand = are.stand;
    others = λ n out. are.others n out ∙ same n ∙ elim (there_or_not closed n) as (λ _. block_at (without blocks vacated) n ≡ block_at (without blocks closed) n) [
      | inl there ↦ elim (covers n there) as (λ _. block_at (without blocks vacated) n ≡ block_at (without blocks closed) n) [
        | inl free ↦ block-closed vacated blocks n free ∙ sym (block-closed closed blocks n there)
        | inr c ↦ absurd (out c)
      ]
      | inr none ↦ block-kept vacated blocks n (λ c. none (vacates n c)) ∙ sym (block-kept closed blocks n none)
    ];
  }

-- what is left of a list was in it
pub drop-among : {X : Type 0} (k : ℕ) (xs : List X) (x : X) → Contains (drop k xs) x → Contains xs x
drop-among k xs x c = subst (λ ys. Contains ys x) (take-append-drop k xs) (Contains-append_right (take k xs) (drop k xs) x c)

-- the places that are added, one opened value after another
module _ {R : Type 0} (blocks : List (Option (Entry R ℕ))) where
  pub length-added : (opened : List (Entry R ℕ)) (numbers : List ℕ) → length numbers ≡ length opened → length (added blocks opened numbers) ≡ length opened
  length-added [] numbers len = refl
  length-added (e ∷ es) [] len = absurd (omega arith)
  length-added (e ∷ es) (n ∷ ns) len = ap suc (length-added es ns (omega arith))

  pub added-at : (opened : List (Entry R ℕ)) (numbers : List ℕ) (i : ℕ) (e : Entry R ℕ) → length numbers ≡ length opened → i < length opened → get_or opened i e ≡ e
      → get_or (added blocks opened numbers) i [] ≡ drop (length (places_at blocks (get_or numbers i 0))) e.keys
  added-at [] numbers i e len il at = absurd (omega arith)
  added-at (x ∷ xs) [] i e len il at = absurd (omega arith)
  added-at (x ∷ xs) (n ∷ ns) zero e len il at = ap (λ (z : Entry R ℕ). drop (length (places_at blocks n)) z.keys) at
  added-at (x ∷ xs) (n ∷ ns) (suc i) e len il at = added-at xs ns i e (omega arith) (omega arith) at

  pub added-among : (opened : List (Entry R ℕ)) (numbers : List ℕ) (places : List ℕ) → Contains (added blocks opened numbers) places → (e : Entry R ℕ) × Contains opened e × ((place : ℕ) → Contains places place → Contains e.keys place)
  added-among [] numbers places (i, il, is) = absurd (omega arith)
  added-among (x ∷ xs) [] places (i, il, is) = absurd (omega arith)
  added-among (x ∷ xs) (n ∷ ns) places (zero, il, is) =
      let k = length (places_at blocks n) in
      (x, Contains-head x xs, λ place c. drop-among k x.keys place (subst (λ ps. Contains ps place) (sym is) c))
  added-among (x ∷ xs) (n ∷ ns) places (suc i, il, is) =
      let (e, c, among) = added-among xs ns places (i, omega arith, is) in
      (e, Contains-tail x xs e c, among)

  -- the rows at the places that are added are there
  pub added-rows : {K : Type 0} (has_key : R → K → Type 0) (postings : List (K × Posting)) (opened : List (Entry R ℕ)) (numbers : List ℕ) → ((e : Entry R ℕ) → Contains opened e → IsPlaced (has_key e.value) postings e.keys)
      → (places : List ℕ) → Contains (added blocks opened numbers) places → (place : ℕ) → Contains places place → IsSome (key_at postings place)
  added-rows has_key postings opened numbers placed places c place there =
      let (e, ce, among) = added-among opened numbers places c in
      (placed e ce).rows place (among place there)

-- an open block that stands after the change stood before
pub still-among : {X : Type 0} (blocks : List (Option X)) (closed : List ℕ) (x : X) → Contains (blocks_in (without blocks closed)) x → Contains (blocks_in blocks) x
still-among blocks closed x c =
    let (n, at) = number-from_block (without blocks closed) x c in
    block-among blocks n x (block-from_open closed blocks n x at)
