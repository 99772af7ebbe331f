-- Blocks that are put under numbers, and what this makes of their postings.
use Rattle.std.proofs.Common.{◌≡◌, ◌≢◌, ℕ, zero, suc, ◌+◌, ◌-◌, ◌<◌, ◌≤◌, Bool, true, false, cond, List, [], ◌∷◌, ◌++◌, Option, None, Some, Result, Ok, Err, IfOk, length, get_or, take, drop, append_assoc, refl, sym, ◌∙◌, ap, subst, inl, inr, arith}
use Rattle.std.specs.Prelude.{◌↔◌, ◌⊎◌, AllPairs, Contains, count_by, IsSome, slice_set, nat_lt, if◌then◌else◌}
use Rattle.std.proofs.Math.Decide.{dec_lt}
use Rattle.std.proofs.lemmas.Bool.Decides.{nat_tests}
use Rattle.std.proofs.lemmas.List.{get_or-set_same, get_or-set_other, length-set, take-append-drop, take_more}
use Rattle.std.proofs.lemmas.List.Concat.{flat_map-append}
use Rattle.std.proofs.lemmas.List.Sums.{sum_by-append}
use Rattle.std.proofs.lemmas.List.Elements.{Contains-get_or}
use Rattle.feature_index.specs.Postings.{Posting, numbers_of}
use Rattle.swoosh_resolver.specs.Tables.{ArePosted, block_at, keys_at}
use Rattle.swoosh_resolver.specs.Changes.{keys_in, number_at}

-- with a block under the number, which is new where no place in the list has it
abbrev pub put_block : {X : Type 0} → List (Option X) → ℕ → X → List (Option X)
put_block blocks n x = if nat_lt n (length blocks) then slice_set blocks n (Some x) else blocks ++ Some x ∷ []

module _ {X : Type 0} where
  -- a block stands within the list
  pub within-from_some : (blocks : List (Option X)) (n : ℕ) → IsSome (block_at blocks n) → n < length blocks
  within-from_some [] n h = absurd cc
  within-from_some (b ∷ bs) zero h = omega arith
  within-from_some (b ∷ bs) (suc n) h = let less = within-from_some bs n h in omega arith

  pushed-at : (blocks : List (Option X)) (x : X) → block_at (blocks ++ Some x ∷ []) (length blocks) ≡ Some x
  pushed-at [] x = refl
  pushed-at (b ∷ bs) x = pushed-at bs x

  pushed-other : (blocks : List (Option X)) (x : X) (m : ℕ) → m ≢ length blocks → block_at (blocks ++ Some x ∷ []) m ≡ block_at blocks m
  pushed-other [] x zero ne = absurd (ne refl)
  pushed-other [] x (suc m) ne = refl
  pushed-other (b ∷ bs) x zero ne = refl
  pushed-other (b ∷ bs) x (suc m) ne = pushed-other bs x m (λ e. ne (ap suc e))

  pub put-within : (blocks : List (Option X)) (n : ℕ) (x : X) → n < length blocks → put_block blocks n x ≡ slice_set blocks n (Some x)
  put-within blocks n x h = let yes' : nat_lt n (length blocks) ≡ true = grind (arith, nat_tests) in rw yes' refl

  pub put-past : (blocks : List (Option X)) (n : ℕ) (x : X) → length blocks ≤ n → put_block blocks n x ≡ blocks ++ Some x ∷ []
  put-past blocks n x h = let no' : nat_lt n (length blocks) ≡ false = grind (arith, nat_tests) in rw no' refl

  -- the block that was put stands under its number
  pub put-at : (blocks : List (Option X)) (n : ℕ) (x : X) → n ≤ length blocks → block_at (put_block blocks n x) n ≡ Some x
  put-at blocks n x le = elim (dec_lt n (length blocks)) as (λ _. block_at (put_block blocks n x) n ≡ Some x) [
    | yes h ↦ rw (put-within blocks n x h) (get_or-set_same blocks n (Some x) None h)
    | no h ↦ (let same : n ≡ length blocks = omega arith in rw (put-past blocks n x (omega arith), same) (pushed-at blocks x))
  ]

  -- and under all other numbers stands what stood there
  pub put-other : (blocks : List (Option X)) (n : ℕ) (x : X) → n ≤ length blocks → (m : ℕ) → m ≢ n → block_at (put_block blocks n x) m ≡ block_at blocks m
  put-other blocks n x le m ne = elim (dec_lt n (length blocks)) as (λ _. block_at (put_block blocks n x) m ≡ block_at blocks m) [
    | yes h ↦ rw (put-within blocks n x h) (get_or-set_other blocks n m (Some x) None ne)
    | no h ↦ (let same : n ≡ length blocks = omega arith in rw (put-past blocks n x (omega arith)) (pushed-other blocks x m (rw same at ne)))
  ]

-- two numbers are one, or are not
pub one_or_not : (m n : ℕ) → (m ≡ n) ⊎ (m ≢ n)
one_or_not m n = elim (dec_lt m n) as (λ _. (m ≡ n) ⊎ (m ≢ n)) [
  | yes h ↦ inr (λ e. omega arith)
  | no h ↦ elim (dec_lt n m) as (λ _. (m ≡ n) ⊎ (m ≢ n)) [ yes h' ↦ inr (λ e. omega arith) | no h' ↦ inl (omega arith) ]
]

module _ {X K : Type 0} {eq : K → K → Bool} {has_key : X → K → Type 0} (blocks : List (Option X)) (old : List (K × Posting)) (posted : ArePosted eq has_key blocks old) (new : List (K × Posting)) (n : ℕ) where
  -- a number with no block stands under no key
  pub unposted-free : block_at blocks n ≡ None → (k : K) → Contains (numbers_of eq old k) n → ⊥
  unposted-free free k c = let (e, at, has) = (posted.stands k n).0 c in absurd cc

  -- a number with a block stands under each of its keys
  pub posted-block : (e : X) → block_at blocks n ≡ Some e → (k : K) → has_key e k → Contains (numbers_of eq old k) n
  posted-block e at k has = (posted.stands k n).1 (e, at, has)

  pub posted-put : (e : X) → block_at blocks n ≡ None → n ≤ length blocks
      → ((k : K) (m : ℕ) → Contains (numbers_of eq new k) m ↔ (Contains (numbers_of eq old k) m ⊎ (has_key e k × (m ≡ n))))
      → ArePosted eq has_key (put_block blocks n e) new
  posted-put e free le changed = record {
    stands = λ k m. (
      λ c. elim ((changed k m).0 c) as (λ _. (f : X) × (block_at (put_block blocks n e) m ≡ Some f) × has_key f k) [
        | inl there ↦
            (let (f, at, has) = (posted.stands k m).0 there in
            (f, put-other blocks n e le m (λ (same : m ≡ n). let none : block_at blocks m ≡ None = subst (λ z. block_at blocks z ≡ None) (sym same) free in absurd cc) ∙ at, has))
        | inr (has, same) ↦ (e, subst (λ z. block_at (put_block blocks n e) z ≡ Some e) (sym same) (put-at blocks n e le), has)
      ],
      λ (f, at, has). elim (one_or_not m n) as (λ _. Contains (numbers_of eq new k) m) [
        | inl same ↦
            (let here : block_at (put_block blocks n e) m ≡ Some e = subst (λ z. block_at (put_block blocks n e) z ≡ Some e) (sym same) (put-at blocks n e le) in
            let one : f ≡ e = cc in
            (changed k m).1 (inr (subst (λ z. has_key z k) one has, same)))
        | inr ne ↦ (changed k m).1 (inl ((posted.stands k m).1 (f, sym (put-other blocks n e le m ne) ∙ at, has)))
      ],
    );
  }

  pub posted-closed : (e : X) → block_at blocks n ≡ Some e
      → ((k : K) (m : ℕ) → Contains (numbers_of eq new k) m ↔ (Contains (numbers_of eq old k) m × (has_key e k → m ≢ n)))
      → ArePosted eq has_key (slice_set blocks n None) new
  posted-closed e at changed =
      let within : n < length blocks = within-from_some blocks n (rw at refl) in
      let emptied : block_at (slice_set blocks n None) n ≡ None = get_or-set_same blocks n None None within in
      record {
        stands = λ k m. (
          λ c.
              let (there, apart) = (changed k m).0 c in
              let (f, here, has) = (posted.stands k m).0 there in (
                f,
                get_or-set_other blocks n m None None (λ (same : m ≡ n).
                    (let one : f ≡ e = let at' : block_at blocks m ≡ Some e = subst (λ z. block_at blocks z ≡ Some e) (sym same) at in cc in
                    apart (subst (λ z. has_key z k) one has) same)) ∙ here,
                has,
              ),
          λ (f, here, has).
              let ne : m ≢ n = λ same. (let none : block_at (slice_set blocks n None) m ≡ None = subst (λ z. block_at (slice_set blocks n None) z ≡ None) (sym same) emptied in absurd cc) in
              (changed k m).1 ((posted.stands k m).1 (f, sym (get_or-set_other blocks n m None None ne) ∙ here, has), λ _. ne),
        );
      }

  -- the block is moved to a number with none
  pub posted-moved : (e : X) (to : ℕ) → block_at blocks n ≡ Some e → block_at blocks to ≡ None → to ≤ length blocks
      → ((k : K) (m : ℕ) → Contains (numbers_of eq new k) m ↔ ((Contains (numbers_of eq old k) m × (has_key e k → m ≢ n)) ⊎ (has_key e k × (m ≡ to))))
      → ArePosted eq has_key (put_block (slice_set blocks n None) to e) new
  posted-moved e to at free le changed =
      let within : n < length blocks = within-from_some blocks n (rw at refl) in
      let emptied : block_at (slice_set blocks n None) n ≡ None = get_or-set_same blocks n None None within in
      let len : length (slice_set blocks n None) ≡ length blocks = length-set blocks n None in
      let le' : to ≤ length (slice_set blocks n None) = omega arith in
      let here : block_at (put_block (slice_set blocks n None) to e) to ≡ Some e = put-at (slice_set blocks n None) to e le' in
      record {
        stands = λ k m. (
          λ c. elim ((changed k m).0 c) as (λ _. (f : X) × (block_at (put_block (slice_set blocks n None) to e) m ≡ Some f) × has_key f k) [
            | inl (there, apart) ↦
                (let (f, at', has) = (posted.stands k m).0 there in
                let other : m ≢ to = λ same. (let none : block_at blocks m ≡ None = subst (λ z. block_at blocks z ≡ None) (sym same) free in absurd cc) in
                let left : m ≢ n = λ same.
                (let one : f ≡ e = let at'' : block_at blocks m ≡ Some e = subst (λ z. block_at blocks z ≡ Some e) (sym same) at in cc in
                apart (subst (λ z. has_key z k) one has) same) in
                (f, put-other (slice_set blocks n None) to e le' m other ∙ (get_or-set_other blocks n m None None left ∙ at'), has))
            | inr (has, same) ↦ (e, subst (λ z. block_at (put_block (slice_set blocks n None) to e) z ≡ Some e) (sym same) here, has)
          ],
          λ (f, at', has). elim (one_or_not m to) as (λ _. Contains (numbers_of eq new k) m) [
            | inl same ↦
                (let here' : block_at (put_block (slice_set blocks n None) to e) m ≡ Some e = subst (λ z. block_at (put_block (slice_set blocks n None) to e) z ≡ Some e) (sym same) here in
                let one : f ≡ e = cc in
                (changed k m).1 (inr (subst (λ z. has_key z k) one has, same)))
            | inr ne ↦
                (let stays : block_at (slice_set blocks n None) m ≡ Some f = sym (put-other (slice_set blocks n None) to e le' m ne) ∙ at' in
                let left : m ≢ n = λ same. (let none : block_at (slice_set blocks n None) m ≡ None = subst (λ z. block_at (slice_set blocks n None) z ≡ None) (sym same) emptied in absurd cc) in
                (changed k m).1 (inl ((posted.stands k m).1 (f, sym (get_or-set_other blocks n m None None left) ∙ stays, has), λ _. left)))
          ],
        );
      }

-- the number at a place, by cases
pub number-closed : (closed : List ℕ) (first i : ℕ) → i < length closed → number_at closed first i ≡ get_or closed i 0
number-closed closed first i h = let yes' : nat_lt i (length closed) ≡ true = grind (arith, nat_tests) in rw yes' refl

pub number-new : (closed : List ℕ) (first i : ℕ) → length closed ≤ i → number_at closed first i ≡ first + (i - length closed)
number-new closed first i h = let no' : nat_lt i (length closed) ≡ false = grind (arith, nat_tests) in rw no' refl

module _ (closed : List ℕ) (first : ℕ) (distinct : AllPairs (λ m n. m ≢ n) closed) (below : (n : ℕ) → Contains closed n → n < first) where
  closed-below : (i : ℕ) → i < length closed → get_or closed i 0 < first
  closed-below i h = below (get_or closed i 0) (Contains-get_or closed i 0 h)

  -- the number at an earlier place is another
  pub numbers-apart : (i j : ℕ) → i < j → number_at closed first i ≢ number_at closed first j
  numbers-apart i j h same =
      elim (dec_lt i (length closed)) as (λ _. ⊥) [
        | yes hi ↦ (let ei = number-closed closed first i hi in let low = closed-below i hi in
            elim (dec_lt j (length closed)) as (λ _. ⊥) [
              | yes hj ↦ (let ej = number-closed closed first j hj in distinct i j 0 h hj (sym ei ∙ same ∙ ej))
              | no hj ↦ (let ej = number-new closed first j (omega arith) in omega arith)
            ])
        | no hi ↦ (let ei = number-new closed first i (omega arith) in let ej = number-new closed first j (omega arith) in omega arith)
      ]

module _ {X : Type 0} where
  pub pushed-before : (xs : List X) (x : X) (i : ℕ) (d : X) → i < length xs → get_or (xs ++ x ∷ []) i d ≡ get_or xs i d
  pushed-before [] x i d h = absurd (omega arith)
  pushed-before (y ∷ ys) x zero d h = refl
  pushed-before (y ∷ ys) x (suc i) d h = pushed-before ys x i d (omega arith)

  -- what stands at a place
  pub element : (xs : List X) (i : ℕ) → i < length xs → (x : X) × (get_or xs i x ≡ x)
  element [] i h = absurd (omega arith)
  element (x ∷ xs) zero h = (x, refl)
  element (x ∷ xs) (suc i) h = element xs i (omega arith)

  pub pushed-last : (xs : List X) (x d : X) → get_or (xs ++ x ∷ []) (length xs) d ≡ x
  pushed-last [] x d = refl
  pushed-last (y ∷ ys) x d = pushed-last ys x d

-- the keys at one list of places among those at more
pub count-keys : {K : Type 0} (eq : K → K → Bool) (postings : List (K × Posting)) (k : K) (done : List (List ℕ)) (places : List ℕ) (rest : List (List ℕ))
    → count_by (eq k) (keys_in postings (done ++ (places ∷ rest))) ≡ count_by (eq k) (keys_in postings done) + (count_by (eq k) (keys_at postings places) + count_by (eq k) (keys_in postings rest))
count-keys eq postings k done places rest =
    let split = flat_map-append (keys_at postings) done (places ∷ rest) in
    let two = sum_by-append (λ x. cond (eq k x) 1 0) (keys_in postings done) (keys_at postings places ++ keys_in postings rest) in
    let more = sum_by-append (λ x. cond (eq k x) 1 0) (keys_at postings places) (keys_in postings rest) in
    rw split (omega arith)

-- the keys up to one of the lists, and those at it, are no more than all
pub count-split : {K : Type 0} (eq : K → K → Bool) (postings : List (K × Posting)) (k : K) (lists : List (List ℕ)) (i : ℕ) → i < length lists
    → count_by (eq k) (keys_in postings (take i lists)) + count_by (eq k) (keys_at postings (get_or lists i [])) ≤ count_by (eq k) (keys_in postings lists)
count-split eq postings k lists i il =
    let whole : take i lists ++ (get_or lists i [] ∷ drop (i + 1) lists) ≡ lists =
    sym (append_assoc (take i lists) (get_or lists i [] ∷ []) (drop (i + 1) lists)) ∙ ap (λ ls. ls ++ drop (i + 1) lists) (sym (take_more lists i [] il)) ∙ take-append-drop (i + 1) lists in
    let counted = count-keys eq postings k (take i lists) (get_or lists i []) (drop (i + 1) lists) in
    let counted' = rw whole at counted in
    omega arith

-- the postings of the blocks stay theirs while their numbers stay
pub reposted : {X K : Type 0} {eq : K → K → Bool} {has_key : X → K → Type 0} (blocks : List (Option X)) (old new : List (K × Posting)) → ((k : K) → numbers_of eq new k ≡ numbers_of eq old k) → ArePosted eq has_key blocks old → ArePosted eq has_key blocks new
reposted {X} {K} {eq} {has_key} blocks old new same posted = record {
  stands = λ k n. subst (λ numbers. Contains numbers n ↔ ((e : X) × (block_at blocks n ≡ Some e) × has_key e k)) (sym (same k)) (posted.stands k n);
}

pub IfOk-then : {A E : Type 0} (r : Result A E) (P Q : A → Type 0) → ((x : A) → P x → Q x) → IfOk r P → IfOk r Q
IfOk-then (Ok x) P Q f h = f x h
IfOk-then (Err e) P Q f h = tt
