-- The orders of the lists of features, and what the lists keep.
use Rattle.std.specs.Prelude.{ℕ, Bool, true, false, ◌&&◌, List, [], ◌∷◌}
use Rattle.std.specs.declared.cmp.Ordering.{Ordering}
use Rattle.std.specs.Ordering.{nat_cmp, ordering_then}
use Rattle.std.specs.Cmp.Lexicographic.{slice_cmp}
use Rattle.union_base.specs.SortedLists.{is_ascending}

-- texts, byte by byte
abbrev pub texts_cmp : List ℕ → List ℕ → Ordering
texts_cmp = slice_cmp nat_cmp

-- pairs of texts: by the source, then by the number
abbrev pub pairs_cmp : List ℕ × List ℕ → List ℕ × List ℕ → Ordering
pairs_cmp = λ x y. ordering_then (texts_cmp x.0 y.0) (texts_cmp x.1 y.1)

-- the list is not empty
abbrev pub has_some : {K : Type 0} → List K → Bool
has_some [] = false
has_some (x ∷ xs) = true

-- there is a control pair, and each list is in order and without repeats
abbrev pub are_features : List (List ℕ × List ℕ) → List (List ℕ) → List (List ℕ) → List (List ℕ) → List (List ℕ) → List (List ℕ) → List (List ℕ) → Bool
are_features control types isbns issns titles dates names =
    (has_some control && is_ascending pairs_cmp control)
    && ((is_ascending texts_cmp types && (is_ascending texts_cmp isbns && is_ascending texts_cmp issns))
    && (is_ascending texts_cmp titles && (is_ascending texts_cmp dates && is_ascending texts_cmp names)))
