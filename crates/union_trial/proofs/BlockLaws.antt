-- A block of a library's frames, and the batch that it gives.
use Rattle.std.proofs.Common.{◌≡◌, ℕ, suc, ◌+◌, ◌≤◌, ◌<◌, true, ◌&&◌, List, [], ◌∷◌, ◌++◌, length, map, inl, inr, refl, sym, ap, subst, ◌∙◌, arith, append_assoc, append-nil, length-append}
use Rattle.std.specs.Prelude.{filter, IsTrue, Some, nat_le, is_none, cond}
use Rattle.std.specs.List.{AllZip, list_all}
use Rattle.std.proofs.lemmas.Bool.{and_from}
use Rattle.std.proofs.lemmas.Bool.Decides.{nat_tests}
use Rattle.std.proofs.lemmas.List.{map-append, length-map}
use Rattle.std.proofs.lemmas.List.Folds.{list_all-append}
use Rattle.marc_fields.specs.Spelling.{spelling}
use Rattle.catalogue_core.specs.Batches.{is_own_op, is_batch}
use Rattle.catalogue_core.specs.Ops.{op as op_of}
use Rattle.catalogue_editions.specs.declared.batch.Batch.{Batch}
use Rattle.catalogue_editions.specs.declared.history_entry.HistoryEntry.{HistoryEntry}
use Rattle.catalogue_editions.specs.declared.op.Op.{Op}
use Rattle.library_batches.specs.Batches.{IsOpOf, IsBatchOf, AreBatches}
use Rattle.library_batches.specs.Streams.{Frame, is_accepted, accepted}
use Rattle.library_batches.proofs.BlockLaws.{IsBlockBefore, some_in, some_in-more, AreBatches-block}
use Rattle.union_trial.specs.Blocks.{AreAsked, IsBlockOf}
use Rattle.union_trial.specs.Draws.{library_draws}
use Rattle.union_trial.specs.Streams.{library_code, stream, turns_of, Loads}
use Rattle.union_trial.specs.TrialRecords.{record_of, frame_of}
use Rattle.union_trial.specs.declared.draws.Draws.{Draws}
use Rattle.union_trial.proofs.Acceptance.{drawn-Spells, drawn-unbroken}

zip-push : {A B : Type 0} (R : A → B → Type 0) (xs : List A) (ys : List B) (x : A) (y : B) → AllZip R xs ys → R x y → AllZip R (xs ++ x ∷ []) (ys ++ y ∷ [])
zip-push R [] [] x y all one = (one, tt)
zip-push R [] (y' ∷ ys) x y all one = absurd all
zip-push R (x' ∷ xs) [] x y all one = absurd all
zip-push R (x' ∷ xs) (y' ∷ ys) x y all one = (all.0, zip-push R xs ys x y all.1 one)

zip-length : {A B : Type 0} (R : A → B → Type 0) (xs : List A) (ys : List B) → AllZip R xs ys → length xs ≡ length ys
zip-length R [] [] all = refl
zip-length R [] (y ∷ ys) all = absurd all
zip-length R (x ∷ xs) [] all = absurd all
zip-length R (x ∷ xs) (y ∷ ys) all = ap suc (zip-length R xs ys all.1)

-- the bytes of a frame
abbrev bytes_of : Draws → List ℕ
bytes_of d = spelling (record_of d)

-- nothing is asked at first
pub asked-none : (library : List ℕ) (before : List Draws) → AreAsked library before before [] []
asked-none library before = record { split = refl; asked = tt; own = refl }

-- one frame more
pub asked-more : (library : List ℕ) (before now rest taken : List Draws) (d : Draws) (ops : List Op) (one : Op) → AreAsked library before now taken ops
    → now ≡ d ∷ rest → op_of [] library (record_of d) ≡ Some one → IsTrue (is_own_op library one)
    → AreAsked library before rest (taken ++ d ∷ []) (ops ++ one ∷ [])
asked-more library before now rest taken d ops one are next asks own = record {
  split = are.split ∙ (ap (λ later. taken ++ later) next ∙ sym (append_assoc taken (d ∷ []) rest));
  asked = subst (λ all. AllZip (IsOpOf [] library) all (ops ++ one ∷ [])) (sym (map-append bytes_of taken (d ∷ [])))
      (zip-push (IsOpOf [] library) (map bytes_of taken) ops (bytes_of d) one are.asked (record_of d, drawn-Spells d, asks));
  own = list_all-append (is_own_op library) ops (one ∷ []) ∙ and_from (list_all (is_own_op library) ops) (list_all (is_own_op library) (one ∷ [])) are.own (and_from (is_own_op library one) true own refl);
}

-- each frame of the generator is accepted
accepted-all : (taken : List Draws) → accepted (map frame_of taken) ≡ map bytes_of taken
accepted-all [] = refl
accepted-all (d ∷ taken) =
    let passes : is_accepted (frame_of d) ≡ true = ap is_none (drawn-unbroken d) in
    ap (λ b. map (λ (f : Frame). f.1) (cond b (frame_of d ∷ filter is_accepted (map frame_of taken)) (filter is_accepted (map frame_of taken)))) passes
    ∙ ap (λ rest. bytes_of d ∷ rest) (accepted-all taken)

-- as many operations as frames were taken
pub block-size : (library : List ℕ) (before now : List Draws) (ops : List Op) (block : IsBlockOf library before now ops) → length ops ≤ 256
block-size library before now ops block =
    let size : length (map bytes_of block.taken) ≡ length ops = zip-length (IsOpOf [] library) (map bytes_of block.taken) ops block.are.asked in
    elim block.full [
      | inl whole ↦ omega (arith, size, length-map block.taken bytes_of)
      | inr last ↦ omega (arith, size, length-map block.taken bytes_of)
    ]

-- they make a batch, where there are any
pub block-batch : (library : List ℕ) (before now : List Draws) (ops : List Op) → IsBlockOf library before now ops → 0 < length ops → IsTrue (is_batch library ops)
block-batch library before now ops block some =
    and_from (nat_le 1 (length ops) && nat_le (length ops) 256) (list_all (is_own_op library) ops)
    (sized (length ops) some (block-size library before now ops block)) block.are.own
  where
    sized : (n : ℕ) → 0 < n → n ≤ 256 → (nat_le 1 n && nat_le n 256) ≡ true
    sized n more most = grind (arith, nat_tests)

-- batches of a library's stream were applied, and these draws are still to come
pub record HasLoaded (seed count place : ℕ) (history now : List HistoryEntry) (still : List Draws) : Type 0 where
  pub batches : List Batch
  pub applied : now ≡ history ++ turns_of place batches
  pub read : (later : List Batch) → AreBatches [] (library_code place) (map frame_of still) later
      → AreBatches [] (library_code place) (stream seed count place) (batches ++ later)

pub loaded-none : (seed count place : ℕ) (history : List HistoryEntry) (still : List Draws) → still ≡ library_draws seed count place
    → HasLoaded seed count place history history still
loaded-none seed count place history still is = record {
  batches = [];
  applied = sym (append-nil history);
  read = λ later are. subst (λ draws. AreBatches [] (library_code place) (map frame_of draws) later) is are;
}

-- one batch more
pub loaded-more : (seed count place : ℕ) (history now then : List HistoryEntry) (before still : List Draws) (ops : List Op) (batch : Batch)
    → HasLoaded seed count place history now before → IsBlockOf (library_code place) before still ops → 0 < length ops
    → batch.library ≡ library_code place → batch.ops ≡ ops → then ≡ now ++ record { pass = place; batch = batch } ∷ []
    → HasLoaded seed count place history then still
loaded-more seed count place history now then before still ops batch loaded block some own asks applied = record {
  batches = loaded.batches ++ batch ∷ [];
  applied = applied ∙ ap (λ turns. turns ++ record { pass = place; batch = batch } ∷ []) loaded.applied
      ∙ append_assoc history (turns_of place loaded.batches) (record { pass = place; batch = batch } ∷ [])
      ∙ ap (λ turns. history ++ turns) (sym (map-append (λ (b : Batch). record { pass = place; batch = b }) loaded.batches (batch ∷ [])));
  read = λ later are. subst (λ all. AreBatches [] library (stream seed count place) all) (sym (append_assoc loaded.batches (batch ∷ []) later))
      (loaded.read (batch ∷ later) (subst (λ draws. AreBatches [] library (map frame_of draws) (batch ∷ later)) (sym block.are.split)
      (subst (λ frames. AreBatches [] library frames (batch ∷ later)) (sym (map-append frame_of block.taken still))
      (AreBatches-block [] library (map frame_of block.taken) (map frame_of still) batch later before_it has_ops is_batch_of are))));
}
  where
    library : List ℕ
    library = library_code place

    before_it : IsBlockBefore (map frame_of block.taken) (map frame_of still)
    before_it = elim block.full [
      | inl whole ↦ inl (length-map block.taken frame_of ∙ whole)
      | inr last ↦ inr (ap (map frame_of) last.0, subst (λ n. n ≤ 256) (sym (length-map block.taken frame_of)) last.1)
    ]

    has_ops : some_in batch.ops ≡ true
    has_ops = ap some_in asks ∙ some_in-more ops some

    is_batch_of : IsBatchOf [] library (map frame_of block.taken) batch
    is_batch_of = record {
      library_is = own;
      ops = subst (λ all. AllZip (IsOpOf [] library) (accepted (map frame_of block.taken)) all) (sym asks)
          (subst (λ frames. AllZip (IsOpOf [] library) frames ops) (sym (accepted-all block.taken)) block.are.asked);
    }

none_taken : {A B : Type 0} (f : A → B) (xs : List A) → length (map f xs) ≡ 0 → xs ≡ []
none_taken f [] none = refl
none_taken f (x ∷ xs) none = absurd (omega arith)

-- a block without operations is after the last one
pub loaded-all : (seed count place : ℕ) (history now : List HistoryEntry) (before still : List Draws) (ops : List Op)
    → HasLoaded seed count place history now before → IsBlockOf (library_code place) before still ops → length ops ≡ 0
    → Loads seed count place history now
loaded-all seed count place history now before still ops loaded block none = record {
  batches = loaded.batches;
  read = subst (λ all. AreBatches [] (library_code place) (stream seed count place) all) (append-nil loaded.batches)
      (loaded.read [] (subst (λ draws. AreBatches [] (library_code place) (map frame_of draws) []) (sym empty) tt));
  applied = loaded.applied;
}
  where
    zip : AllZip (IsOpOf [] (library_code place)) (map bytes_of block.taken) ops
    zip = block.are.asked

    nothing : block.taken ≡ []
    nothing = none_taken bytes_of block.taken (zip-length (IsOpOf [] (library_code place)) (map bytes_of block.taken) ops zip ∙ none)

    last : still ≡ []
    last = elim block.full [
      | inl whole ↦ absurd (omega (arith, ap length nothing, whole))
      | inr end ↦ end.0
    ]

    empty : before ≡ []
    empty = block.are.split ∙ (λ i. nothing i ++ last i)

-- fewer draws are still to come after a block with operations
pub block-fewer : (library : List ℕ) (before still : List Draws) (ops : List Op) → IsBlockOf library before still ops → 0 < length ops → length still < length before
block-fewer library before still ops block some =
    let zip : length (map bytes_of block.taken) ≡ length ops = zip-length (IsOpOf [] library) (map bytes_of block.taken) ops block.are.asked in
    let split : length before ≡ length block.taken + length still = ap length block.are.split ∙ length-append block.taken still in
    omega (arith, zip, split, some, length-map block.taken bytes_of)
