-- A block of frames before others, and the batch that it gives.
use Rattle.std.proofs.Common.{◌≡◌, ℕ, zero, suc, ◌≤◌, ◌<◌, Bool, true, false, cond, ◌||◌, List, [], ◌∷◌, ◌++◌, length, take, drop, append-nil, ◌⊎◌, inl, inr, refl, sym, ap, subst, ◌∙◌, arith, length-append}
use Rattle.std.specs.Prelude.{map, filter}
use Rattle.std.specs.List.{AllZip, list_any}
use Rattle.std.proofs.lemmas.List.{length-drop, take_all, drop_all}
use Rattle.std.proofs.lemmas.Bool.{cond-true, cond-false}
use Rattle.std.proofs.Math.Seq.{take-append_seam, drop-append_seam}
use Rattle.catalogue_editions.specs.declared.op.Op.{Op}
use Rattle.catalogue_editions.specs.declared.batch.Batch.{Batch}
use Rattle.library_batches.specs.Streams.{Frame, is_accepted, accepted}
use Rattle.library_batches.specs.Batches.{IsOpOf, IsBatchOf, AreBatches, AreFirstBatches, block_size, blocks_within, blocks, has_accepted}

-- so many blocks are allowed that more would change nothing
blocks_within-more : (n m : ℕ) (frames : List Frame) → length frames ≤ n → length frames ≤ m → blocks_within n frames ≡ blocks_within m frames
blocks_within-more zero zero frames one two = refl
blocks_within-more zero (suc m) [] one two = refl
blocks_within-more zero (suc m) (frame ∷ frames) one two = absurd (omega arith)
blocks_within-more (suc n) zero [] one two = refl
blocks_within-more (suc n) zero (frame ∷ frames) one two = absurd (omega arith)
blocks_within-more (suc n) (suc m) [] one two = refl
blocks_within-more (suc n) (suc m) (frame ∷ frames) one two =
    let fewer : length (drop block_size (frame ∷ frames)) ≤ length frames = omega (arith, length-drop block_size (frame ∷ frames)) in
    ap (λ bs. take block_size (frame ∷ frames) ∷ bs) (blocks_within-more n m (drop block_size (frame ∷ frames)) (omega arith) (omega arith))

-- a prefix of that length
front_of : {A : Type 0} (n : ℕ) (xs ys : List A) → length xs ≡ n → take n (xs ++ ys) ≡ xs
front_of n xs ys is = subst (λ k. take k (xs ++ ys) ≡ xs) is (take-append_seam xs ys)

rest_of : {A : Type 0} (n : ℕ) (xs ys : List A) → length xs ≡ n → drop n (xs ++ ys) ≡ ys
rest_of n xs ys is = subst (λ k. drop k (xs ++ ys) ≡ ys) is (drop-append_seam xs ys)

-- a whole block, and what is after it
blocks-whole : (taken still : List Frame) → length taken ≡ block_size → blocks (taken ++ still) ≡ taken ∷ blocks still
blocks-whole [] still whole = absurd (omega arith)
blocks-whole (frame ∷ taken) still whole =
    let behind : drop block_size ((frame ∷ taken) ++ still) ≡ still = rest_of block_size (frame ∷ taken) still whole in
    ap (λ block. block ∷ blocks_within (length (taken ++ still)) (drop block_size ((frame ∷ taken) ++ still))) (front_of block_size (frame ∷ taken) still whole)
    ∙ ap (λ rest. (frame ∷ taken) ∷ rest) (ap (blocks_within (length (taken ++ still))) behind
    ∙ blocks_within-more (length (taken ++ still)) (length still) still (omega (arith, length-append taken still)) (omega arith))

blocks_within-none : (n : ℕ) → blocks_within n [] ≡ []
blocks_within-none zero = refl
blocks_within-none (suc n) = refl

-- the last block
blocks-last : (frame : Frame) (taken : List Frame) → length (frame ∷ taken) ≤ block_size → blocks (frame ∷ taken) ≡ (frame ∷ taken) ∷ []
blocks-last frame taken most =
    ap (λ block. block ∷ blocks_within (length taken) (drop block_size (frame ∷ taken))) (take_all block_size (frame ∷ taken) most)
    ∙ ap (λ rest. (frame ∷ taken) ∷ rest) (ap (blocks_within (length taken)) (drop_all block_size (frame ∷ taken) most) ∙ blocks_within-none (length taken))

-- the blocks that have batches
abbrev pub turning : List Frame → List (List Frame)
turning frames = filter has_accepted (blocks frames)

-- a block is whole, or nothing is after it
abbrev pub IsBlockBefore : List Frame → List Frame → Type 0
IsBlockBefore taken still = (length taken ≡ block_size) ⊎ (still ≡ []) × (length taken ≤ block_size)

turning-last : (taken : List Frame) → length taken ≤ block_size → turning taken ≡ filter has_accepted (taken ∷ [])
turning-last [] most = refl
turning-last (frame ∷ taken) most = ap (filter has_accepted) (blocks-last frame taken most)

turning-before : (taken still : List Frame) → IsBlockBefore taken still → turning (taken ++ still) ≡ filter has_accepted (taken ∷ blocks still)
turning-before taken still (inl whole) = ap (filter has_accepted) (blocks-whole taken still whole)
turning-before taken still (inr last) =
    ap (λ rest. turning (taken ++ rest)) last.0 ∙ ap turning (append-nil taken) ∙ turning-last taken last.1
    ∙ ap (λ rest. filter has_accepted (taken ∷ blocks rest)) (sym last.0)

-- whether there is any
abbrev pub some_in : {A : Type 0} → List A → Bool
some_in [] = false
some_in (x ∷ xs) = true

pub some_in-more : {A : Type 0} (xs : List A) → 0 < length xs → some_in xs ≡ true
some_in-more [] more = absurd (omega arith)
some_in-more (x ∷ xs) more = refl

pub some_in-none : {A : Type 0} (xs : List A) → length xs ≡ 0 → some_in xs ≡ false
some_in-none [] none = refl
some_in-none (x ∷ xs) none = absurd (omega arith)

some_in-zip : {A B : Type 0} (R : A → B → Type 0) (xs : List A) (ys : List B) → AllZip R xs ys → some_in xs ≡ some_in ys
some_in-zip R [] [] all = refl
some_in-zip R [] (y ∷ ys) all = absurd all
some_in-zip R (x ∷ xs) [] all = absurd all
some_in-zip R (x ∷ xs) (y ∷ ys) all = refl

some_in-map : {A B : Type 0} (f : A → B) (xs : List A) → some_in (map f xs) ≡ some_in xs
some_in-map f [] = refl
some_in-map f (x ∷ xs) = refl

list_any-filter : {A : Type 0} (p : A → Bool) (xs : List A) → list_any p xs ≡ some_in (filter p xs)
list_any-filter p [] = refl
list_any-filter p (x ∷ xs) =
    elim (p x) as (λ b. (b || list_any p xs) ≡ some_in (cond b (x ∷ filter p xs) (filter p xs))) [ true ↦ refl | false ↦ list_any-filter p xs ]

-- a block has an accepted frame exactly where it has an operation
has_accepted-ops : (prefer : List (List ℕ)) (library : List ℕ) (taken : List Frame) (ops : List Op) → AllZip (IsOpOf prefer library) (accepted taken) ops
    → has_accepted taken ≡ some_in ops
has_accepted-ops prefer library taken ops asked =
    list_any-filter is_accepted taken ∙ sym (some_in-map (λ (f : Frame). f.1) (filter is_accepted taken))
    ∙ some_in-zip (IsOpOf prefer library) (accepted taken) ops asked

turning-some : (taken still : List Frame) → IsBlockBefore taken still → has_accepted taken ≡ true → turning (taken ++ still) ≡ taken ∷ turning still
turning-some taken still before has = turning-before taken still before ∙ cond-true (has_accepted taken) (taken ∷ turning still) (turning still) has

turning-none : (taken still : List Frame) → IsBlockBefore taken still → has_accepted taken ≡ false → turning (taken ++ still) ≡ turning still
turning-none taken still before has = turning-before taken still before ∙ cond-false (has_accepted taken) (taken ∷ turning still) (turning still) has

-- a block with a batch comes first
pub AreBatches-block : (prefer : List (List ℕ)) (library : List ℕ) (taken still : List Frame) (batch : Batch) (later : List Batch) → IsBlockBefore taken still
    → some_in batch.ops ≡ true → IsBatchOf prefer library taken batch → AreBatches prefer library still later → AreBatches prefer library (taken ++ still) (batch ∷ later)
AreBatches-block prefer library taken still batch later before some is all =
    subst (λ bs. AllZip (IsBatchOf prefer library) bs (batch ∷ later))
    (sym (turning-some taken still before (has_accepted-ops prefer library taken batch.ops is.ops ∙ some))) (is, all)

pub AreFirstBatches-block : (prefer : List (List ℕ)) (library : List ℕ) (taken still : List Frame) (batch : Batch) (later : List Batch) → IsBlockBefore taken still
    → some_in batch.ops ≡ true → IsBatchOf prefer library taken batch → AreFirstBatches prefer library still later
    → AreFirstBatches prefer library (taken ++ still) (batch ∷ later)
AreFirstBatches-block prefer library taken still batch later before some is first =
    subst (λ bs. AllZip (IsBatchOf prefer library) (take (suc (length later)) bs) (batch ∷ later))
    (sym (turning-some taken still before (has_accepted-ops prefer library taken batch.ops is.ops ∙ some))) (is, first)

-- a block without one comes first
pub AreBatches-none : (prefer : List (List ℕ)) (library : List ℕ) (taken still : List Frame) (ops : List Op) (later : List Batch) → IsBlockBefore taken still
    → some_in ops ≡ false → AllZip (IsOpOf prefer library) (accepted taken) ops → AreBatches prefer library still later → AreBatches prefer library (taken ++ still) later
AreBatches-none prefer library taken still ops later before none asked all =
    subst (λ bs. AllZip (IsBatchOf prefer library) bs later) (sym (turning-none taken still before (has_accepted-ops prefer library taken ops asked ∙ none))) all

pub AreFirstBatches-none : (prefer : List (List ℕ)) (library : List ℕ) (taken still : List Frame) (ops : List Op) (later : List Batch) → IsBlockBefore taken still
    → some_in ops ≡ false → AllZip (IsOpOf prefer library) (accepted taken) ops → AreFirstBatches prefer library still later
    → AreFirstBatches prefer library (taken ++ still) later
AreFirstBatches-none prefer library taken still ops later before none asked first =
    subst (λ bs. AllZip (IsBatchOf prefer library) (take (length later) bs) later)
    (sym (turning-none taken still before (has_accepted-ops prefer library taken ops asked ∙ none))) first
