-- What is known of editions while their records are gathered.
use Rattle.std.specs.Prelude.{ℕ, zero, suc, List, [], ◌∷◌, ◌++◌}
use Rattle.catalogue_editions.specs.declared.edition.Edition.{Edition}

-- the edition at that place has one record more
abbrev pub with_member : ℕ → Edition → List (Edition × List Edition) → List (Edition × List Edition)
with_member i r [] = []
with_member zero r (p ∷ pairs) = (p.0, p.1 ++ r ∷ []) ∷ pairs
with_member (suc i) r (p ∷ pairs) = p ∷ with_member i r pairs
