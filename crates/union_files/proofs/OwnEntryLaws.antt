-- What comes of a library's operations among others is what comes of them alone.
use Rattle.std.proofs.Common.{◌≡◌, ◌≢◌, ℕ, true, false, cond, List, [], ◌∷◌, ◌++◌, refl, sym, ap, subst, ◌∙◌, ◌==◌, eq-eqb, arith}
use Rattle.std.specs.Prelude.{map, filter}
use Rattle.std.specs.List.{AllByRecursion}
use Rattle.std.proofs.lemmas.Bool.Decides.{nat_tests}
use Rattle.catalogue_core.specs.Histories.{MapOf, after_batch, outcomes}
use Rattle.catalogue_editions.specs.declared.batch.Batch.{Batch}
use Rattle.catalogue_editions.specs.declared.edition.Edition.{Edition}
use Rattle.library_batches.specs.Outcomes.{found_in}
use Rattle.catalogue_lock.specs.History.{changes_of}
use Rattle.library_batches.specs.Tallies.{found_from, found}
use Rattle.union_files.proofs.OwnLaws.{HaveSameOwn, own-outcomes, own-after_batch, batch-own, apart-after_ops}

-- an entry is of the library where it has that number, and of another where it has not
pub record IsApart (library : List ℕ) (number : ℕ) (entry : ℕ × Batch) : Type 0 where
  pub own : entry.0 ≡ number → entry.1.library ≡ library
  pub other : entry.0 ≢ number → entry.1.library ≢ library

equal-is : (m n : ℕ) → (m == n) ≡ true → m ≡ n
equal-is m n h = grind (arith, nat_tests)

-- what came of the batches of that number is what comes of them alone
found_from-apart : (library : List ℕ) (number : ℕ) (a b : MapOf Edition) (entries : List (ℕ × Batch)) → AllByRecursion (IsApart library number) entries
    → HaveSameOwn library a b → found_from b number entries ≡ found_in a (changes_of number entries)
found_from-apart library number a b [] all same = refl
found_from-apart library number a b (entry ∷ entries) all same =
    elim (entry.0 == number) as (λ t. (entry.0 == number) ≡ t
    → cond t (outcomes entry.1.library b entry.1.ops) [] ++ found_from (after_batch b entry.1) number entries
    ≡ found_in a (map (λ (e : ℕ × Batch). e.1) (cond t (entry ∷ filter (λ (e : ℕ × Batch). e.0 == number) entries) (filter (λ (e : ℕ × Batch). e.0 == number) entries)))) [
      | true ↦ λ is.
          let of : entry.1.library ≡ library = all.0.own (equal-is entry.0 number is) in
          let here : HaveSameOwn entry.1.library a b = subst (λ l. HaveSameOwn l a b) (sym of) same in
          ap (λ first. first ++ found_from (after_batch b entry.1) number entries) (sym (own-outcomes entry.1.library a b entry.1.ops (batch-own entry.1) here))
          ∙ ap (λ rest. outcomes entry.1.library a entry.1.ops ++ rest)
          (found_from-apart library number (after_batch a entry.1) (after_batch b entry.1) entries all.1 (own-after_batch library a b entry.1 of same))
      | false ↦ λ is.
          let differ : entry.0 ≢ number = λ same. (let clash : true ≡ false = sym (eq-eqb entry.0 number same) ∙ is in cc) in
          found_from-apart library number a (after_batch b entry.1) entries all.1
          (apart-after_ops library entry.1.library a b entry.1.ops (all.0.other differ) (batch-own entry.1) same)
    ] refl

pub found-apart : (library : List ℕ) (number : ℕ) (entries : List (ℕ × Batch)) → AllByRecursion (IsApart library number) entries
    → found entries number ≡ found_in [] (changes_of number entries)
found-apart library number entries all =
    let none : HaveSameOwn library [] [] = record { sorted = (tt, tt); same = λ id is. refl } in
    found_from-apart library number [] [] entries all none
