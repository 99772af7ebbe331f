-- Two of several records.
use Rattle.std.specs.Prelude.{Bool, false, ◌||◌, List, [], ◌∷◌}
use Rattle.std.specs.List.{list_any}
use Rattle.catalogue_editions.specs.declared.edition.Edition.{Edition}

-- some two of the records are so
abbrev pub some_pair : (Edition → Edition → Bool) → List Edition → Bool
some_pair are [] = false
some_pair are (r ∷ records) = list_any (are r) records || some_pair are records
