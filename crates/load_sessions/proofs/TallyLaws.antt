-- What comes of one turn more.
use Rattle.std.proofs.Common.{◌≡◌, ℕ, suc, ◌==◌, true, false, cond, List, [], ◌∷◌, ◌++◌, length, ◌≤◌, append_assoc, append-nil, refl, sym, ap, ◌∙◌, arith, length-append, eq-eqb}
use Rattle.std.specs.Prelude.{map, filter, fold}
use Rattle.std.proofs.lemmas.List.{map-append}
use Rattle.std.proofs.lemmas.List.Elements.{filter-append}
use Rattle.std.proofs.lemmas.Bool.{cond-true, leb-true}
use Rattle.catalogue_core.specs.Histories.{MapOf, after_op, after_batch, outcomes}
use Rattle.catalogue_editions.specs.declared.op.Op.{Op}
use Rattle.std.specs.Cmp.{first_so, second_so}
use Rattle.catalogue_editions.specs.declared.batch.Batch.{Batch}
use Rattle.catalogue_editions.specs.declared.edition.Edition.{Edition}
use Rattle.catalogue_editions.specs.declared.outcome.Outcome.{Outcome}
use Rattle.catalogue_lock.specs.History.{changes_of, IsPrefix}
use Rattle.library_batches.specs.Batches.{block_size}
use Rattle.catalogue_core.specs.Entries.{history_of, gives}
use Rattle.library_batches.specs.Tallies.{found_from, found}

-- the current records after entries
abbrev after_entries : MapOf Edition → List (ℕ × Batch) → MapOf Edition
after_entries all [] = all
after_entries all (entry ∷ entries) = after_entries (after_batch all entry.1) entries

after_entries-history : (all : MapOf Edition) (entries : List (ℕ × Batch))
    → fold (λ all entry. after_batch all entry.batch) all (history_of entries) ≡ after_entries all entries
after_entries-history all [] = refl
after_entries-history all (entry ∷ entries) = after_entries-history (after_batch all entry.1) entries

found_from-append : (all : MapOf Edition) (number : ℕ) (xs ys : List (ℕ × Batch))
    → found_from all number (xs ++ ys) ≡ found_from all number xs ++ found_from (after_entries all xs) number ys
found_from-append all number [] ys = refl
found_from-append all number (x ∷ xs) ys =
    ap (λ rest. cond (x.0 == number) (outcomes x.1.library all x.1.ops) [] ++ rest) (found_from-append (after_batch all x.1) number xs ys)
    ∙ sym (append_assoc (cond (x.0 == number) (outcomes x.1.library all x.1.ops) []) (found_from (after_batch all x.1) number xs) _)

-- entries of other numbers bring nothing
found_from-none : (all : MapOf Edition) (number : ℕ) (xs : List (ℕ × Batch)) → length (changes_of number xs) ≡ 0 → found_from all number xs ≡ []
found_from-none all number [] none = refl
found_from-none all number (x ∷ xs) none =
    elim (x.0 == number) as (λ b. length (map (λ (e : ℕ × Batch). e.1) (cond b (x ∷ filter (λ (e : ℕ × Batch). e.0 == number) xs) (filter (λ (e : ℕ × Batch). e.0 == number) xs))) ≡ 0
    → cond b (outcomes x.1.library all x.1.ops) [] ++ found_from (after_batch all x.1) number xs ≡ [])
    [ true ↦ λ h. absurd (omega arith) | false ↦ λ h. found_from-none (after_batch all x.1) number xs h ] none

changes_of-append : (number : ℕ) (xs ys : List (ℕ × Batch)) → changes_of number (xs ++ ys) ≡ changes_of number xs ++ changes_of number ys
changes_of-append number xs ys =
    ap (map (λ (e : ℕ × Batch). e.1)) (filter-append (λ (e : ℕ × Batch). e.0 == number) xs ys)
    ∙ map-append (λ (e : ℕ × Batch). e.1) (filter (λ (e : ℕ × Batch). e.0 == number) xs) (filter (λ (e : ℕ × Batch). e.0 == number) ys)

changes_of-one : (number : ℕ) (batch : Batch) → changes_of number ((number, batch) ∷ []) ≡ batch ∷ []
changes_of-one number batch = rw (eq-eqb number number refl) refl

found_from-one : (all : MapOf Edition) (number : ℕ) (batch : Batch) → found_from all number ((number, batch) ∷ []) ≡ outcomes batch.library all batch.ops
found_from-one all number batch =
    append-nil (cond (number == number) (outcomes batch.library all batch.ops) []) ∙ cond-true (number == number) (outcomes batch.library all batch.ops) [] (eq-eqb number number refl)

-- a pass that had seen its own entries, and has one more, found what that one brought
pub found-turn : (number : ℕ) (seen before later : List (ℕ × Batch)) (own more : List Batch) (batch : Batch) (brought : List Outcome)
    → changes_of number seen ≡ own → changes_of number later ≡ more → more ≡ own ++ batch ∷ [] → IsPrefix seen before
    → later ≡ before ++ (number, batch) ∷ [] → gives before batch brought → found later number ≡ found seen number ++ brought
found-turn number seen before later own more batch brought had has gained follows ends brings =
    let rest = follows.0 in
    let whole : later ≡ seen ++ (rest ++ (number, batch) ∷ []) = ends ∙ ap (λ xs. xs ++ (number, batch) ∷ []) (sym follows.1) ∙ append_assoc seen rest _ in
    let split : more ≡ own ++ (changes_of number rest ++ batch ∷ []) =
    sym has ∙ ap (changes_of number) whole ∙ changes_of-append number seen (rest ++ (number, batch) ∷ [])
    ∙ ap (λ xs. xs ++ changes_of number (rest ++ (number, batch) ∷ [])) had
    ∙ ap (λ xs. own ++ xs) (changes_of-append number rest ((number, batch) ∷ []) ∙ ap (λ xs. changes_of number rest ++ xs) (changes_of-one number batch)) in
    let none : length (changes_of number rest) ≡ 0 =
    omega (arith, ap length split, ap length gained, length-append own (changes_of number rest ++ batch ∷ []), length-append (changes_of number rest) (batch ∷ []), length-append own (batch ∷ [])) in
    let now : found later number ≡ found_from [] number before ++ outcomes batch.library (after_entries [] before) batch.ops =
    ap (found_from [] number) ends ∙ found_from-append [] number before ((number, batch) ∷ [])
    ∙ ap (λ xs. found_from [] number before ++ xs) (found_from-one (after_entries [] before) number batch) in
    let then : found_from [] number before ≡ found seen number =
    ap (found_from [] number) (sym follows.1) ∙ found_from-append [] number seen rest
    ∙ ap (λ xs. found seen number ++ xs) (found_from-none (after_entries [] seen) number rest none) ∙ append-nil (found seen number) in
    now ∙ ap (λ xs. xs ++ outcomes batch.library (after_entries [] before) batch.ops) then
    ∙ ap (λ xs. found seen number ++ xs) (sym (brings ∙ ap (λ all. outcomes batch.library all batch.ops) (after_entries-history [] before)))

-- a pass without an entry found nothing
pub found-none : (number : ℕ) (seen : List (ℕ × Batch)) (own : List Batch) → changes_of number seen ≡ own → own ≡ [] → found seen number ≡ []
found-none number seen own has none = found_from-none [] number seen (ap length (has ∙ none))

-- one outcome for each operation
pub length-outcomes : (library : List ℕ) (all : MapOf Edition) (batch : List Op) → length (outcomes library all batch) ≡ length batch
length-outcomes library all [] = refl
length-outcomes library all (op ∷ ops) = ap suc (length-outcomes library (after_op library all op) ops)

-- a batch has at most `block_size` operations
pub few_ops : (batch : Batch) → length batch.ops ≤ block_size
few_ops batch = leb-true (length batch.ops) block_size (second_so _ _ (first_so _ _ batch.fits))
