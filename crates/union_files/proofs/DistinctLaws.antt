-- The libraries that words name have distinct codes.
use Rattle.std.proofs.Common.{◌≡◌, ◌≢◌, ℕ, Bool, true, false, ◌||◌, List, [], ◌∷◌, refl, sym, ap, subst, ◌∙◌}
use Rattle.std.specs.Prelude.{map, nat_eq, not}
use Rattle.std.specs.List.{list_any, AllByRecursion}
use Rattle.std.specs.Cmp.Lexicographic.{pointwise, bytes_decides}
use Rattle.union_base.specs.Both.{both_true}
use Rattle.union_words.specs.Words.{LibraryFile, code_text, libraries_of, name_one_library, have_distinct_codes}
use Rattle.union_files.specs.Deliveries.{codes_of, AreDistinct}
use Rattle.union_files.specs.Inputs.{deliveries}

same-text : (text : List ℕ) → pointwise nat_eq text text ≡ true
same-text text = (bytes_decides text text).1 refl

none-named : (word : List ℕ) (rest : List (List ℕ)) → list_any (name_one_library word) rest ≡ false
    → AllByRecursion (λ other. code_text word ≢ other) (map (λ (file : LibraryFile). file.library) (libraries_of rest))
none-named word [] none = tt
none-named word (other ∷ rest) none =
    let parts = neither (name_one_library word other) (list_any (name_one_library word) rest) none in
    ((λ same. (let clash : true ≡ false = sym (same-text (code_text word)) ∙ (ap (pointwise nat_eq (code_text word)) same ∙ parts.0) in cc)), none-named word rest parts.1)
  where
    neither : (a b : Bool) → (a || b) ≡ false → (a ≡ false) × (b ≡ false)
    neither true b h = cc
    neither false true h = cc
    neither false false h = (refl, refl)

not-false : (b : Bool) → not b ≡ true → b ≡ false
not-false true h = cc
not-false false h = refl

distinct-words : (words : List (List ℕ)) → have_distinct_codes words ≡ true → AreDistinct (map (λ (file : LibraryFile). file.library) (libraries_of words))
distinct-words [] h = tt
distinct-words (word ∷ rest) h =
    let parts = both_true (not (list_any (name_one_library word) rest)) (have_distinct_codes rest) h in
    (none-named word rest (not-false _ parts.0), distinct-words rest parts.1)

codes-of_files : (prefer : List (List ℕ)) (contents : List ℕ → List ℕ) (libraries : List LibraryFile) → codes_of (deliveries prefer contents libraries) ≡ map (λ file. file.library) libraries
codes-of_files prefer contents [] = refl
codes-of_files prefer contents (file ∷ rest) = ap (λ (codes : List (List ℕ)). file.library ∷ codes) (codes-of_files prefer contents rest)

-- so what their files deliver is of distinct libraries
pub distinct_deliveries : (words prefer : List (List ℕ)) (contents : List ℕ → List ℕ) → have_distinct_codes words ≡ true
    → AreDistinct (codes_of (deliveries prefer contents (libraries_of words)))
distinct_deliveries words prefer contents distinct = subst AreDistinct (sym (codes-of_files prefer contents (libraries_of words))) (distinct-words words distinct)
