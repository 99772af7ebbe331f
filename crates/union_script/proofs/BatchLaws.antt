-- What comes of batches that are applied one after the other, and of what they leave refused.
use Rattle.std.proofs.Common.{◌≡◌, ℕ, suc, ◌≤◌, false, true, not, List, [], ◌∷◌, ◌++◌, length, refl, sym, ap, subst, ◌∙◌, append_assoc, append-nil, arith}
use Rattle.std.specs.Prelude.{fold, Bool, ◌&&◌, ◌==◌, nat_le, nat_lt, IsTrue}
use Rattle.std.specs.List.{list_all}
use Rattle.std.proofs.lemmas.Bool.{leb-true, false≢true}
use Rattle.std.proofs.lemmas.Bool.Decides.{nat_tests}
use Rattle.std.proofs.lemmas.List.{map-append}
use Rattle.std.proofs.lemmas.List.Sums.{fold-append}
use Rattle.catalogue_core.specs.Histories.{MapOf, current, after_op, after_batch, outcomes}
use Rattle.catalogue_editions.specs.declared.batch.Batch.{Batch}
use Rattle.catalogue_editions.specs.declared.op.Op.{Op}
use Rattle.catalogue_core.specs.Batches.{is_batch, is_own_op}
use Rattle.catalogue_editions.specs.declared.edition.Edition.{Edition}
use Rattle.catalogue_editions.specs.declared.history_entry.HistoryEntry.{HistoryEntry}
use Rattle.library_batches.specs.Outcomes.{found_in}
use Rattle.union_script.specs.Texts.{turns_of}

-- the current records after turns
current_turns : (all : MapOf Edition) (batches : List Batch)
    → fold (λ all (entry : HistoryEntry). after_batch all entry.batch) all (turns_of batches) ≡ fold after_batch all batches
current_turns all [] = refl
current_turns all (batch ∷ batches) = current_turns (after_batch all batch) batches

current_behind : (history : List HistoryEntry) (batches : List Batch) → current (history ++ turns_of batches) ≡ fold after_batch (current history) batches
current_behind history batches =
    fold-append (λ all (entry : HistoryEntry). after_batch all entry.batch) [] history (turns_of batches) ∙ current_turns (current history) batches

found_more : (all : MapOf Edition) (batches : List Batch) (batch : Batch)
    → found_in all (batches ++ batch ∷ []) ≡ found_in all batches ++ outcomes batch.library (fold after_batch all batches) batch.ops
found_more all [] batch = append-nil (outcomes batch.library all batch.ops)
found_more all (first ∷ batches) batch =
    ap (λ found. outcomes first.library all first.ops ++ found) (found_more (after_batch all first) batches batch)
    ∙ sym (append_assoc (outcomes first.library all first.ops) (found_in (after_batch all first) batches) _)

-- what is found when one batch more is applied
pub found_behind : (history : List HistoryEntry) (batches : List Batch) (batch : Batch)
    → found_in (current history) (batches ++ batch ∷ []) ≡ found_in (current history) batches ++ outcomes batch.library (current (history ++ turns_of batches)) batch.ops
found_behind history batches batch =
    found_more (current history) batches batch
    ∙ ap (λ all. found_in (current history) batches ++ outcomes batch.library all batch.ops) (sym (current_behind history batches))

-- the turns of one batch more
pub turns_more : (history : List HistoryEntry) (batches : List Batch) (batch : Batch)
    → (history ++ turns_of batches) ++ record { pass = 0; batch = batch } ∷ [] ≡ history ++ turns_of (batches ++ batch ∷ [])
turns_more history batches batch =
    append_assoc history (turns_of batches) _ ∙ ap (λ turns. history ++ turns) (sym (map-append (λ (b : Batch). record { pass = 0; batch = b }) batches (batch ∷ [])))

-- what comes of operations has one outcome each
length_outcomes : (library : List ℕ) (all : MapOf Edition) (ops : List Op) → length (outcomes library all ops) ≡ length ops
length_outcomes library all [] = refl
length_outcomes library all (op ∷ ops) = ap suc (length_outcomes library (after_op library all op) ops)

and_left : (a b : Bool) → (a && b) ≡ true → a ≡ true
and_left true b both = refl
and_left false b both = both

and_right : (a b : Bool) → (a && b) ≡ true → b ≡ true
and_right true b both = both
and_right false b both = absurd (false≢true both)

-- a batch has so few operations
few_ops : (library : List ℕ) (ops : List Op) → IsTrue (is_batch library ops) → length ops ≤ 256
few_ops library ops fits =
    leb-true (length ops) 256 (and_right (nat_le 1 (length ops)) (nat_le (length ops) 256) (and_left _ (list_all (is_own_op library) ops) fits))

pub few_outcomes : (batch : Batch) (all : MapOf Edition) → length (outcomes batch.library all batch.ops) ≤ 256
few_outcomes batch all = subst (λ n. n ≤ 256) (sym (length_outcomes batch.library all batch.ops)) (few_ops batch.library batch.ops batch.fits)

-- what is not none is some
pub some_of : (n : ℕ) (none : Bool) → none ≡ (n == 0) → not none ≡ nat_lt 0 n
some_of n none is = grind (arith, nat_tests, is)
