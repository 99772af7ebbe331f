-- The editions to which records resolve, each with its records.
use Rattle.std.specs.Prelude.{⊤, List, [], ◌∷◌, map}
use Rattle.catalogue_editions.specs.declared.edition.Edition.{Edition}
use Rattle.edition_derivations.specs.Steps.{IsEditionOf}
use Rattle.edition_sources.specs.Members.{members}
use Rattle.edition_doubts.specs.declared.groups.Group.{Group}

-- editions, each with its records
abbrev pub pairs_of : List Group → List (Edition × List Edition)
pairs_of groups = map (λ g. (g.edition, g.members.items)) groups

-- each of the editions with those of the records that match it
abbrev pub gathered : List Edition → List Edition → List (Edition × List Edition)
gathered records editions = map (λ e. (e, members records e)) editions

-- the records of each edition resolve to it
abbrev pub AreEditions : List (Edition × List Edition) → Type 0
AreEditions [] = ⊤
AreEditions (p ∷ pairs) = IsEditionOf p.1 p.0 × AreEditions pairs
